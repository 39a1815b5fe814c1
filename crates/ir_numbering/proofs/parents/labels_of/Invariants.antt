use Rattle.std.proofs.Common.{◌≡◌, ◌<◌, ℕ, length}
use Rattle.std.specs.Prelude.{slice_index}
use Rattle.ir_numbering.proofs.parents.labels_of.Given as goal

abbrev pub invariant-loop-place : goal.invariant-loop-place
invariant-loop-place l = record {
  every : length l.labels.items ≡ length l.order;
  told : (k : ℕ) → k < l.place → slice_index l.labels.items (slice_index l.order k) ≡ k;
}
