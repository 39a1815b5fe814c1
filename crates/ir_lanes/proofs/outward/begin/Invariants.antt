use Rattle.ir_lanes.proofs.Starts.{IsBeginning}
use Rattle.ir_lanes.proofs.outward.begin.Given as goal

abbrev pub invariant-loop-p : goal.invariant-loop-p
invariant-loop-p l = IsBeginning l.topology l.unit l.source l.lane l.p l.fn.starts l.starts
