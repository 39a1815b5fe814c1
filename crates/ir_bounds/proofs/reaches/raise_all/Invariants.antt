use Rattle.ir_bounds.proofs.Reaching.{AreRaising}
use Rattle.ir_bounds.proofs.reaches.raise_all.Given as goal

abbrev pub invariant-loop-x : goal.invariant-loop-x
invariant-loop-x l = AreRaising l.topology l.initial.reaches l.reaches l.has_raised l.x
