use Rattle.std.proofs.Common.{◌≡◌, ◌<◌, ℕ, length}
use Rattle.std.specs.Prelude.{slice_index}
use Rattle.ir_model.specs.Landmark.{followers}
use Rattle.ir_numbering.specs.Search.{list_at}
use Rattle.ir_bounds.specs.Bounds.{held_lists}
use Rattle.ir_bounds.proofs.trees.follower_lists.Given as goal

abbrev pub invariant-loop-u : goal.invariant-loop-u
invariant-loop-u l = record {
  every : length (held_lists l.lists.items) ≡ l.u;
  each : (u : ℕ) → u < l.u → list_at l.lists.items u ≡ followers l.topology l.landmarks (slice_index l.parents) u;
}
