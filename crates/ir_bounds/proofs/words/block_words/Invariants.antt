use Rattle.ir_bounds.specs.Around.{AreBlockWords}
use Rattle.ir_bounds.proofs.words.block_words.Given as goal

abbrev pub invariant-loop-i : goal.invariant-loop-i
invariant-loop-i l = AreBlockWords l.topology l.held.owners l.u l.i l.blocks.items
