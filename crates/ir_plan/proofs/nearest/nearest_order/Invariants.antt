use Rattle.ir_plan.specs.Distances.{far_between}
use Rattle.ir_plan.proofs.Tours.{IsNearestBelow}
use Rattle.ir_plan.proofs.nearest.nearest_order.Given as goal

abbrev pub invariant-loop-place : goal.invariant-loop-place
invariant-loop-place l = IsNearestBelow l.far.nodes (far_between l.far.rows.items) l.first l.place l.order.items
