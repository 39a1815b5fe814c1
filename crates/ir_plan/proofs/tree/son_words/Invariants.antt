use Rattle.ir_lookup.specs.Words.{starts_of}
use Rattle.ir_plan.specs.SonStarts.{AreSonStarts}
use Rattle.ir_plan.proofs.tree.son_words.Given as goal

abbrev pub invariant-loop-p : goal.invariant-loop-p
invariant-loop-p l = AreSonStarts l.topology l.numbering l.u l.p (starts_of l.words.items)
