use Rattle.std.proofs.Common.{◌≡◌, take, count_by}
use Rattle.ir_whole.specs.Causes.{may_pass}
use Rattle.ir_whole.proofs.passing.passing.Given as goal

abbrev pub invariant-loop-place : goal.invariant-loop-place
invariant-loop-place l = l.count ≡ count_by (may_pass l.from l.to) (take l.place l.trace)
