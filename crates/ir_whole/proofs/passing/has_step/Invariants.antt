use Rattle.std.proofs.Common.{◌≡◌, ◌-◌, drop}
use Rattle.ir_whole.specs.Causes.{has_step}
use Rattle.ir_whole.proofs.passing.has_step.Given as goal

abbrev pub invariant-loop-i : goal.invariant-loop-i
invariant-loop-i l = has_step l.from l.to (drop (l.i - 1) l.hops) ≡ has_step l.from l.to l.hops
