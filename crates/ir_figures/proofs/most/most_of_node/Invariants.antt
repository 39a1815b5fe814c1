use Rattle.ir_figures.specs.Compactness.{AreMostBefore}
use Rattle.ir_figures.proofs.most.most_of_node.Given as goal

abbrev pub invariant-loop-p : goal.invariant-loop-p
invariant-loop-p l = AreMostBefore l.plan l.u l.p l.most
