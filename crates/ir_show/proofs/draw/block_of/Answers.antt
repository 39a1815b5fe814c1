use Rattle.std.proofs.Common.{◌≡◌, ◌≤◌, ◌<◌, ◌∙◌, length, ap, arith, get_or}
use Rattle.std.specs.Prelude.{Bool, true, false, cond, nat_le, sum_by}
use Rattle.std.proofs.lemmas.List.{take_all}
use Rattle.std.proofs.lemmas.List.Sums.{sum_by_more}
use Rattle.ir_model.specs.Plan.{label_in}
use Rattle.ir_show.specs.Drawing.{begun_by}
use Rattle.ir_show.proofs.draw.block_of.Goals as goal

one_at_most : (b : Bool) → cond b 1 0 ≤ 1
one_at_most true = omega arith
one_at_most false = omega arith

pub loop-i-preserved : goal.loop-i-preserved
loop-i-preserved c =
    let plan = c.args.plan.now in
    let lt : c.loop-i.i < length c.args.landmarks.now = omega (arith, c.loop-i-test.true) in
    let more = sum_by_more (begun_by plan c.args.u) c.args.landmarks.now c.loop-i.i 0 lt in
    let here : c.begun_by-block.result ≡ begun_by plan c.args.u (get_or c.args.landmarks.now c.loop-i.i 0) = c.begun_by-block.ensures in
    let most = one_at_most (nat_le (label_in plan (get_or c.args.landmarks.now c.loop-i.i 0)) (label_in plan c.args.u)) in
    let was = c.loop-i.invariant in
    (omega (arith, more, here, was.0), omega (arith, here, most, was.1))

pub returns : goal.returns
returns c =
    let past : length c.args.landmarks.now ≤ c.loop-i.i = omega (arith, c.loop-i-test.false) in
    c.loop-i.invariant.0 ∙ ap (sum_by (begun_by c.args.plan.now c.args.u)) (take_all c.loop-i.i c.args.landmarks.now past)
