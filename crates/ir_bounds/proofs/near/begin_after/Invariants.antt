use Rattle.std.proofs.Common.{◌≡◌}
use Rattle.ir_bounds.specs.Near.{begin_of}
use Rattle.ir_bounds.proofs.near.begin_after.Given as goal

abbrev pub invariant-loop : goal.invariant-loop
invariant-loop l = l.begin ≡ begin_of l.list l.counter
