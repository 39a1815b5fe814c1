use Rattle.std.proofs.Common.{refl, subst}
use Rattle.ir_model.specs.Plan.{IsPlan}
use Rattle.ir_plan.proofs.Labelled.{as_itself}
use Rattle.ir_plan.proofs.building.plan_in_order.Goals as goal

pub returns-in-Ok-Some-clause-made : goal.returns-in-Ok-Some-clause-made
returns-in-Ok-Some-clause-made g c = (rw c.in-Ok-Some.field-0-is at c.in-Ok-Some.ensures.like, rw c.in-Ok-Some.field-0-is at c.in-Ok-Some.ensures.found)

pub returns-in-Err : goal.returns-in-Err
returns-in-Err g c = record { made = tt; refused = refl; back = c.into_topology.ensures }

pub returns-in-Ok-None : goal.returns-in-Ok-None
returns-in-Ok-None g c = record {
  made = (as_itself c.args.plan (subst IsPlan c.plan.view_is c.plan.invariant), c.in-Ok-None.ensures.kept c.in-Ok-None.field-0-is);
  refused = tt;
  back = tt;
}
