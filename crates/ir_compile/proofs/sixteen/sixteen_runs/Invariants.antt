use Rattle.ir_compile.proofs.ShortRuns.{AreRunsSoFar}
use Rattle.ir_compile.proofs.sixteen.sixteen_runs.Given as goal

abbrev pub invariant-loop-k : goal.invariant-loop-k
invariant-loop-k l = AreRunsSoFar l.twice l.from l.k l.common l.shared l.sizes
