use Rattle.std.proofs.Common.{◌≡◌, take}
use Rattle.ir_lines.specs.Texts.{table_bytes}
use Rattle.ir_lines.proofs.text.table_bytes.Given as goal

abbrev pub invariant-loop-place : goal.invariant-loop-place
invariant-loop-place l = l.bytes.items ≡ table_bytes (take l.place l.words)
