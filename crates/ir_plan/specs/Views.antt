-- What contracts see of a plan.
use Rattle.ir_model.specs.Plan.{Plan}
use Rattle.ir_plan.specs.Shown.{plan_with}
use Rattle.ir_plan.specs.declared.plan.Plan.TheInside.{Inside}

abbrev pub plan_view : Inside → Plan
plan_view p = plan_with p.kind p.root p.topology p.numbering.order p.numbering.labels p.rows.items
