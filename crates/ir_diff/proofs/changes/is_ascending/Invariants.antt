use Rattle.ir_diff.proofs.Ascents.{StepsUp}
use Rattle.ir_diff.proofs.changes.is_ascending.Given as goal

abbrev pub invariant-loop-place : goal.invariant-loop-place
invariant-loop-place l = StepsUp l.row l.place
