use Rattle.ir_trace.proofs.Parts.{AreFollowed}
use Rattle.ir_trace.proofs.departing.first_left.Given as goal

abbrev pub invariant-loop-k : goal.invariant-loop-k
invariant-loop-k l = AreFollowed l.plans l.dest l.source l.segments l.k l.at l.above
