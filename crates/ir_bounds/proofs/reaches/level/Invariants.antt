use Rattle.std.proofs.Common.{ℕ, ◌<◌, ◌≤◌}
use Rattle.ir_tables.specs.Relaxation.{at}
use Rattle.ir_bounds.proofs.reaches.level.Given as goal

abbrev pub invariant-loop-reach : goal.invariant-loop-reach
invariant-loop-reach l = (d : ℕ) → d < l.reach-index → at l.reaches d ≤ l.most
