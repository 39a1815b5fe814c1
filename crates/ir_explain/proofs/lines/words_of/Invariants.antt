use Rattle.std.proofs.Common.{◌≡◌, ◌++◌, length}
use Rattle.ir_model.specs.Text as spelled
use Rattle.ir_explain.specs.Cut.{pointed_texts}
use Rattle.ir_explain.proofs.lines.words_of.Given as goal

-- the words so far and those of what is left are those of the line
abbrev pub invariant-loop-word : goal.invariant-loop-word
invariant-loop-word l = pointed_texts l.found.items ++ spelled.words_of l.rest ≡ spelled.words l.line

abbrev pub decreases-loop-word : goal.decreases-loop-word
decreases-loop-word l = length l.rest
