use Rattle.std.proofs.Common.{◌++◌, ◌∙◌, ℕ, List, ap, arith, length, string_bytes}
use Rattle.ir_model.specs.Graph.{names}
use Rattle.ir_show.proofs.PlanLines.{nodes_more}
use Rattle.ir_exports.specs.RangesText.{ranges_in, ranges_line}
use Rattle.ir_exports.proofs.RangeTexts.{count_more}
use Rattle.ir_exports.proofs.ranges.push_nodes.Goals as goal

pub loop-u-preserved : goal.loop-u-preserved
loop-u-preserved c =
    let s = c.args.plan.now in
    let line = ranges_line (names c.args.graph.now) s in
    let many : ℕ → ℕ = λ u. length (ranges_in s u) in
    let made = c.in_ok-count.ensures in
    let before = c.loop-u.invariant in
    let more = count_more many c.loop-u.u in
    record {
      count = omega (arith, before.count, made.count, more);
      few = omega (arith, before.few, made.few);
      text = made.text ∙ ap (λ (t : List ℕ). t ++ line c.loop-u.u) before.text ∙ nodes_more line c.loop-u.u (string_bytes c.args.text.now);
    }
