use Rattle.std.proofs.Common.{◌≡◌, ◌∙◌, ◌++◌, List, ℕ, ◌∷◌, Some, slice_get, ap, subst, string_bytes}
use Rattle.ir_model.specs.declared.Link.{Link}
use Rattle.ir_model.specs.Graph.{names}
use Rattle.ir_model.specs.Topology.{Topology}
use Rattle.ir_trace.specs.Rows.{spaced}
use Rattle.ir_trace.specs.Written.{name_at}
use Rattle.ir_show.specs.Words.{line_text}
use Rattle.ir_figures.proofs.FailureLines.{line_told, link_there}
use Rattle.ir_figures.proofs.failures.link_line.Goals as goal

pub returns : goal.returns
returns c =
    let s = c.args.plan.now in
    let nodes = names c.args.graph.now in
    let found = link_there _ _ c.ends-low.ensures in
    let link : Link = found.0 in
    let told = c.in_ok-push_left.ensures in
    let old = string_bytes c.new-text.result in
    let a = string_bytes c.push_str.new.self in
    let first = name_at nodes link.low in
    let second = name_at nodes link.high in
    record {
      link = link;
      at = subst (λ (net : Topology). slice_get net.links c.args.l ≡ Some link) c.topology.ensures found.1;
      words = told.0;
      left = told.1;
      whole =
          line_told old a (string_bytes c.push_name.new.text) (string_bytes c.push_left.new.text) (string_bytes c.push_str-2.new.self) first second told.0
          (c.in_ok-push_str.ensures.bytes ∙ ap (λ (t : List ℕ). old ++ t) (c.name_of.ensures ∙ ap (name_at nodes) found.2.0))
          (c.in_ok-push_name.ensures ∙ ap (λ (u : ℕ). a ++ spaced (name_at nodes u)) found.2.1)
          told.2
          c.in_ok-push_str-2.ensures.bytes
          ∙ ap (λ (t : List ℕ). t ++ line_text (first ∷ second ∷ told.0)) c.new-text.ensures.bytes;
    }
