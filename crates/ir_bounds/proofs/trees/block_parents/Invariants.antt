use Rattle.std.proofs.Common.{◌≡◌, ◌<◌, ℕ, length}
use Rattle.std.specs.Prelude.{slice_index}
use Rattle.ir_model.specs.Landmark.{IsBlockParent}
use Rattle.ir_bounds.proofs.trees.block_parents.Given as goal

abbrev pub invariant-loop-v : goal.invariant-loop-v
invariant-loop-v l = record {
  every : length l.parents.items ≡ l.v;
  each : (v : ℕ) → v < l.v → IsBlockParent l.topology l.owners.landmarks.items v (slice_index l.parents.items v);
}
