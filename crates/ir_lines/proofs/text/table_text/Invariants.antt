use Rattle.std.proofs.Common.{◌≡◌, ◌++◌, drop, string_bytes}
use Rattle.ir_lines.specs.Texts.{text_from}
use Rattle.ir_lines.proofs.text.table_text.Given as goal

abbrev pub invariant-loop-place : goal.invariant-loop-place
invariant-loop-place l = string_bytes l.text ++ text_from l.place (drop l.place l.words) ≡ text_from 0 l.words
