use Rattle.ir_lanes.proofs.Starts.{AreBegun}
use Rattle.ir_lanes.proofs.outward.begin_all.Given as goal

abbrev pub invariant-loop-lane : goal.invariant-loop-lane
invariant-loop-lane l = AreBegun l.topology l.unit l.sources l.lane l.starts
