use Rattle.std.proofs.Common.{◌≤◌, ◌<◌, ◌∙◌, length, sym, arith}
use Rattle.ir_show.proofs.Drawn.{passes_here, passes_on, passes_end}
use Rattle.ir_show.proofs.draw.passes.Goals as goal

pub loop-i-preserved : goal.loop-i-preserved
loop-i-preserved c =
    let within : c.loop-i.i < length c.args.walk.now = omega (arith, c.loop-i-test.true) in
    c.loop-i.invariant ∙ passes_on c.args.u c.args.v c.args.walk.now c.loop-i.i c.loop-i.auto.i within (sym c.are_ends.ensures ∙ c.if-are_ends.false)

pub returns-then-are_ends : goal.returns-then-are_ends
returns-then-are_ends c =
    let within : c.loop-i.i < length c.args.walk.now = omega (arith, c.loop-i-test.true) in
    sym (c.loop-i.invariant ∙ passes_here c.args.u c.args.v c.args.walk.now c.loop-i.i c.loop-i.auto.i within (sym c.are_ends.ensures ∙ c.if-are_ends.true))

pub returns : goal.returns
returns c =
    let past : length c.args.walk.now ≤ c.loop-i.i = omega (arith, c.loop-i-test.false) in
    sym (c.loop-i.invariant ∙ passes_end c.args.u c.args.v c.args.walk.now c.loop-i.i c.loop-i.auto.i past)
