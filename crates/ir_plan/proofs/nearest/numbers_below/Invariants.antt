use Rattle.std.proofs.Common.{◌≡◌, ℕ, ◌<◌, length}
use Rattle.std.specs.Prelude.{slice_index}
use Rattle.ir_plan.proofs.nearest.numbers_below.Given as goal

abbrev pub invariant-loop-v : goal.invariant-loop-v
invariant-loop-v l = record { every : length l.order.items ≡ l.v; own : (k : ℕ) → k < l.v → slice_index l.order.items k ≡ k }
