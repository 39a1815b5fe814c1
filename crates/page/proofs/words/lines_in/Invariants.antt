use Rattle.std.proofs.Common.{◌≡◌, ◌++◌, length, map, string_bytes, IsUtf8}
use Rattle.ir_model.specs.Text.{lines}
use Rattle.page.proofs.words.lines_in.Given as goal

abbrev pub invariant-lines : goal.invariant-lines
invariant-lines l = (lines l.fn.text ≡ map string_bytes l.found.items ++ lines l.rest) × IsUtf8 l.rest

abbrev pub decreases-lines : goal.decreases-lines
decreases-lines l = length l.rest
