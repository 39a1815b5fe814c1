use Rattle.std.proofs.Common.{◌≡◌, ◌∙◌, ◌++◌, ℕ, List, Option, ap, sym, subst, append_assoc, flat_map, string_bytes}
use Rattle.std.specs.Prelude.{OnOk}
use Rattle.std.specs.Option.{option_map_or}
use Rattle.std.proofs.lemmas.List.{append-nil}
use Rattle.ir_model.specs.Graph.{names}
use Rattle.ir_model.specs.declared.Hop.{Hop}
use Rattle.ir_trace.specs.Rows.{spaced}
use Rattle.ir_trace.specs.Written.{name_at}
use Rattle.ir_show.specs.PlanText.{node_by}
use Rattle.ir_exports.specs.RangesText.{labels_text, range_words}
use Rattle.ir_exports.proofs.ranges.push_range.Goals as goal

pub returns : goal.returns
returns c =
    let old = string_bytes c.args.text.now in
    let nodes = names c.args.graph.now in
    let net = c.args.plan.now.topology in
    let range = c.args.range.now in
    let span : List ℕ = spaced (labels_text range.from range.to) in
    let name = λ (v : ℕ). spaced (name_at nodes v) in
    let node : node_by net c.args.u range.port ≡ c.hop.result.node = ap (λ (o : Option Hop). option_map_or (λ h. h.node) o 0) c.hop.ensures in
    let whole : string_bytes c.push_span.new.text ++ name c.hop.result.node ≡ old ++ flat_map spaced (range_words nodes net c.args.u range) =
    ap (λ (t : List ℕ). t ++ name c.hop.result.node) c.in_ok-push_span.ensures
    ∙ append_assoc old span (name c.hop.result.node)
    ∙ ap (λ (v : ℕ). old ++ (span ++ name v)) (sym node)
    ∙ ap (λ (t : List ℕ). old ++ (span ++ t)) (sym (append-nil (name (node_by net c.args.u range.port)))) in
    subst (λ (t : List ℕ). OnOk c.push_name.result (string_bytes c.push_name.new.text ≡ t)) whole c.push_name.ensures
