use Rattle.std.proofs.Common.{◌≡◌, ◌∙◌, ◌++◌, ◌+◌, ◌<◌, ℕ, List, ap, append_assoc, arith, flat_map, length, string_bytes, take}
use Rattle.ir_model.specs.Graph.{names}
use Rattle.ir_trace.specs.Rows.{spaced}
use Rattle.ir_show.specs.PlanText.{start_words}
use Rattle.ir_show.specs.SpanLines.{start_at}
use Rattle.ir_show.proofs.PlanLines.{starts_more}
use Rattle.ir_show.proofs.span.push_starts.Goals as goal

pub loop-i-preserved : goal.loop-i-preserved
loop-i-preserved c =
    let row = c.args.row.now in
    let words = start_words (names c.args.graph.now) c.args.topology.now c.args.u in
    let i = c.loop-i.i in
    let before = string_bytes c.args.text.now in
    let lt : i < length row = omega arith in
    c.in_ok-push_start.ensures ∙ ap (λ (t : List ℕ). t ++ flat_map spaced (words (start_at row i))) c.loop-i.invariant
    ∙ append_assoc before (flat_map spaced (flat_map words (take i row))) (flat_map spaced (words (start_at row i)))
    ∙ ap (λ (t : List ℕ). before ++ t) (starts_more words row i lt)
