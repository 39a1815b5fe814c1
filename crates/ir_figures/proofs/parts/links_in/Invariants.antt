use Rattle.ir_figures.specs.Parts.{AreNumbersIn}
use Rattle.ir_figures.specs.Waits.{whole_number}
use Rattle.ir_figures.proofs.parts.links_in.Given as goal

abbrev pub invariant-loop-c : goal.invariant-loop-c
invariant-loop-c l = AreNumbersIn l.whole (whole_number l.without) l.part l.c l.numbers.items
