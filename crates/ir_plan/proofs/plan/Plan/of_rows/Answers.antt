use Rattle.ir_plan.proofs.Standing.{plan_stands}
use Rattle.ir_plan.proofs.plan.Plan.of_rows.Goals as goal

pub invariant_of-result : goal.invariant_of-result
invariant_of-result c =
    let numbers = c.args.numbering in
    let stand = rw c.in-Ok.is at c.requires.rows in
    plan_stands c.args.kind c.args.root c.args.topology numbers.order numbers.parents numbers.labels stand.0 c.in-Ok.rows.items
    c.invariant.ensures.topology c.requires.connected c.requires.root c.requires.depth_first c.requires.first c.requires.labels stand.1 stand.2 stand.3

pub returns-in-Ok-clause-plan : goal.returns-in-Ok-clause-plan
returns-in-Ok-clause-plan c =
    let numbers = c.args.numbering in
    let stand = rw c.in-Ok.is at c.requires.rows in
    plan_stands c.args.kind c.args.root c.args.topology numbers.order numbers.parents numbers.labels stand.0 c.in-Ok.rows.items
    c.invariant.ensures.topology c.requires.connected c.requires.root c.requires.depth_first c.requires.first c.requires.labels stand.1 stand.2 stand.3
