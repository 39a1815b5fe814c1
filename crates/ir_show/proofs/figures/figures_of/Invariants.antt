use Rattle.ir_show.specs.Figures.{AreFiguresBefore}
use Rattle.ir_show.proofs.figures.figures_of.Given as goal

abbrev pub invariant-loop-d : goal.invariant-loop-d
invariant-loop-d l = AreFiguresBefore l.plan l.d l.figures
