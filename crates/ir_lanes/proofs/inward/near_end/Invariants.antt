use Rattle.ir_lanes.specs.Lanes.{AreNear}
use Rattle.ir_lanes.proofs.inward.near_end.Given as goal

abbrev pub invariant-loop-hop : goal.invariant-loop-hop
invariant-loop-hop l = AreNear l.topology l.lanes
