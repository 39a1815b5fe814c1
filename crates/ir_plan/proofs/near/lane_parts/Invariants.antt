use Rattle.ir_bounds.specs.Near.{AreNearParts}
use Rattle.ir_plan.proofs.near.lane_parts.Given as goal

abbrev pub invariant-loop-lane : goal.invariant-loop-lane
invariant-loop-lane l = AreNearParts l.topology l.owners.landmarks.items l.stretch l.first l.lane l.list.items
