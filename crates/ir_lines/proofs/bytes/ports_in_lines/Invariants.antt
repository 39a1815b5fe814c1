use Rattle.ir_lines.proofs.ByteLemmas.{HoldSome}
use Rattle.ir_lines.proofs.bytes.ports_in_lines.Given as goal

abbrev pub invariant-loop-place : goal.invariant-loop-place
invariant-loop-place l = HoldSome l.labels l.row l.words.items l.place
