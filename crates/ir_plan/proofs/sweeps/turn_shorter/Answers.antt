use Rattle.std.proofs.Common.{◌∙◌, sym}
use Rattle.ir_plan.specs.Distances.{far_between}
use Rattle.ir_plan.proofs.Tours.{tried_yes, tried_no}
use Rattle.ir_plan.proofs.sweeps.turn_shorter.Goals as goal

pub returns-then-not-gets_shorter-clause-tried : goal.returns-then-not-gets_shorter-clause-tried
returns-then-not-gets_shorter-clause-tried c =
    tried_no (far_between c.args.far.now.rows.items) c.args.order.now c.args.from c.args.to (sym c.gets_shorter.ensures ∙ c.if-not-gets_shorter.true)

pub returns-clause-tried : goal.returns-clause-tried
returns-clause-tried c =
    c.turn.ensures ∙ tried_yes (far_between c.args.far.now.rows.items) c.args.order.now c.args.from c.args.to (sym c.gets_shorter.ensures ∙ c.if-not-gets_shorter.false)
