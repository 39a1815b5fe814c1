use Rattle.ir_trace.proofs.Strays.{AreSteps}
use Rattle.ir_trace.proofs.departing.first_stray.Given as goal

abbrev pub invariant-loop-i : goal.invariant-loop-i
invariant-loop-i l = AreSteps l.plan l.dest l.hops l.i
