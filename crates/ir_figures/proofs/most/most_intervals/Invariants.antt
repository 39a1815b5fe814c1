use Rattle.ir_figures.specs.Compactness.{AreMostBefore}
use Rattle.ir_figures.proofs.most.most_intervals.Given as goal

abbrev pub invariant-loop-u : goal.invariant-loop-u
invariant-loop-u l = AreMostBefore l.plan l.u 0 l.most
