use Rattle.std.proofs.Common.{arith}
use Rattle.std.proofs.lemmas.List.{ext_get_or}
use Rattle.ir_model.specs.Plan.{IsPlan}
use Rattle.ir_core.proofs.planning.nodes_by_label.Goals as goal

pub returns : goal.returns
returns c =
    let plan = c.args.plan.now in
    let is : IsPlan plan = c.invariant.ensures.plan in
    let every = is.labels.every_label in
    ext_get_or 0 c.loop-label.nodes.items plan.order
    (omega (arith, c.loop-label.invariant.every, c.loop-label-test.false, c.loop-label.auto.label-end, c.nodes-label-end.ensures.count, every, c.loop-label.nodes.ok))
    (λ a lt. c.loop-label.invariant.each a (omega (arith, lt, c.loop-label.invariant.every, c.loop-label.nodes.ok)))
