use Rattle.std.proofs.Common.{◌∙◌, ◌++◌, List, ℕ, codes, map, flat_map, ap, length}
use Rattle.std.specs.List.{range_with_len}
use Rattle.ir_model.specs.Graph.{names}
use Rattle.ir_plan.specs.declared.crew.NodeText.{NodeText}
use Rattle.ir_show.specs.Words.{line_text}
use Rattle.ir_figures.specs.Failures.{IsLinkLine, failures_head}
use Rattle.ir_figures.specs.Made.{bytes_made}
use Rattle.ir_figures.proofs.FailureLines.{bytes_joined, bytes_zipped, on_text}
use Rattle.ir_figures.proofs.failures.link_failures_text.Goals as goal

pub returns : goal.returns
returns g c =
    let s = c.args.plan.now in
    let nodes = names c.args.graph.now in
    let made : List NodeText = c.in_ok-lines.lines.items in
    on_text c.failures_text.result
    (λ text told. record {
      words = told.0;
      figures = told.1;
      lines = map bytes_made made;
      each = bytes_zipped (IsLinkLine nodes s c.args.order c.args.other.now) (range_with_len 0 (length s.topology.links)) made c.in_ok-lines.ensures;
      whole =
          told.2
          ∙ ap (λ (texts : List NodeText). line_text (failures_head (codes "links") s told.0) ++ flat_map bytes_made texts) c.as_slice.ensures.value
          ∙ ap (λ (t : List ℕ). line_text (failures_head (codes "links") s told.0) ++ t) (bytes_joined made);
    })
    c.failures_text.ensures
