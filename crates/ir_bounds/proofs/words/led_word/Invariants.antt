use Rattle.ir_bounds.specs.Words.{IsWordBy}
use Rattle.ir_bounds.proofs.words.led_word.Given as goal

abbrev pub invariant-loop-p : goal.invariant-loop-p
invariant-loop-p l = IsWordBy l.topology l.away l.radius l.whole l.u l.p l.word
