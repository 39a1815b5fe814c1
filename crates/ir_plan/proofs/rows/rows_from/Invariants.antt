use Rattle.std.proofs.Common.{◌≡◌, ◌<◌, ◌+◌, ◌*◌, [], ℕ, length}
use Rattle.std.specs.Prelude.{slice_index, slice_index_or}
use Rattle.ir_plan.specs.NodeRows.{IsNodeRow}
use Rattle.ir_plan.proofs.rows.rows_from.Given as goal

abbrev pub invariant-loop-place : goal.invariant-loop-place
invariant-loop-place l = record {
  every : length l.rows.items ≡ l.place;
  each : (k : ℕ) → k < l.place → IsNodeRow l.kind l.topology l.numbering.order l.numbering.parents (slice_index l.numbering.labels (l.block * 16 + k)) (slice_index_or l.rows.items k []);
}
