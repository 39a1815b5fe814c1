use Rattle.std.proofs.Common.{ℕ, ◌<◌, ◌≤◌, length}
use Rattle.std.specs.Prelude.{slice_index}
use Rattle.ir_plan.specs.Tour.{IsNoFarther}
use Rattle.ir_plan.proofs.nearest.nearest.Given as goal

abbrev pub invariant-loop-place : goal.invariant-loop-place
invariant-loop-place l = record {
  behind : l.from ≤ l.best;
  inside : l.best < length l.order;
  nearest : (j : ℕ) → l.from ≤ j → j < l.place → IsNoFarther (slice_index l.distances) (slice_index l.order l.best) (slice_index l.order j);
}
