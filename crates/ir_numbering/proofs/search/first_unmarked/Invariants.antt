use Rattle.ir_numbering.specs.Search.{FirstMarked}
use Rattle.ir_numbering.proofs.search.first_unmarked.Given as goal

abbrev pub invariant-loop-p : goal.invariant-loop-p
invariant-loop-p l = FirstMarked l.marked l.nodes l.p
