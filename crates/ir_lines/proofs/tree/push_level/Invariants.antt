use Rattle.std.proofs.Common.{◌≡◌, ◌++◌, ℕ}
use Rattle.ir_lines.specs.Words.{level, row_word}
use Rattle.ir_lines.proofs.tree.push_level.Given as goal

abbrev pub invariant-loop-place : goal.invariant-loop-place
invariant-loop-place l = l.words.items ≡ l.fn.words.items ++ level (row_word l.row) l.stride l.place
