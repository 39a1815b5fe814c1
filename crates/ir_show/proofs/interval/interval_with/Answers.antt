use Rattle.std.proofs.Common.{◌<◌, ◌∙◌, length, sym, ap, arith}
use Rattle.ir_plan.specs.Shown.{has_label}
use Rattle.ir_show.proofs.WalkLines.{found_here, found_later, found_none}
use Rattle.ir_show.proofs.interval.interval_with.Goals as goal

pub returns-then-has_label : goal.returns-then-has_label
returns-then-has_label c =
    let row = c.args.row.now in
    let label = c.args.label in
    let within : c.loop-i.i < length row = omega (arith, c.loop-i-test.true, c.len-i-end.ensures.len) in
    let at = c.interval_of-interval.ensures in
    at ∙ sym (found_here row label c.loop-i.i within c.loop-i.invariant (ap (has_label label) (sym at) ∙ sym c.has_label.ensures ∙ c.if-has_label.true))

pub loop-i-preserved : goal.loop-i-preserved
loop-i-preserved c =
    let row = c.args.row.now in
    let label = c.args.label in
    let within : c.loop-i.i < length row = omega (arith, c.loop-i-test.true, c.len-i-end.ensures.len) in
    found_later row label c.loop-i.i within c.loop-i.invariant (ap (has_label label) (sym c.interval_of-interval.ensures) ∙ sym c.has_label.ensures ∙ c.if-has_label.false)

pub returns : goal.returns
returns c = sym (found_none c.args.row.now c.args.label c.loop-i.i (omega (arith, c.loop-i-test.false, c.len-i-end.ensures.len)) c.loop-i.invariant)
