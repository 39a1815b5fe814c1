use Rattle.ir_lanes.proofs.Ends.{AreEnded}
use Rattle.ir_lanes.proofs.inward.put_ends.Given as goal

abbrev pub invariant-loop-lane : goal.invariant-loop-lane
invariant-loop-lane l = AreEnded l.topology l.ends l.lane l.starts
