use Rattle.ir_lanes.specs.Lanes.{AreNear}
use Rattle.ir_lanes.proofs.inward.near_ends.Given as goal

abbrev pub invariant-loop-lane : goal.invariant-loop-lane
invariant-loop-lane l = AreNear l.topology l.lanes
