use Rattle.std.proofs.Common.{◌≡◌, ◌<◌, ℕ, [], length}
use Rattle.std.specs.Prelude.{slice_index_or}
use Rattle.ir_bounds.specs.Bounds.{held_lists}
use Rattle.ir_bounds.specs.Near.{IsNearBatch}
use Rattle.ir_bounds.proofs.detours.near_lists.Given as goal

abbrev pub invariant-loop-batch : goal.invariant-loop-batch
invariant-loop-batch l = record {
  every : length (held_lists l.lists.items) ≡ l.batch;
  each : (b : ℕ) → b < l.batch → IsNearBatch l.topology l.owners.landmarks.items l.stretch b (slice_index_or (held_lists l.lists.items) b []);
}
