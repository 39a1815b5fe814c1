use Rattle.std.proofs.Common.{◌≡◌, ◌<◌, ◌+◌, [], ℕ, length}
use Rattle.std.specs.Prelude.{slice_index, slice_index_or}
use Rattle.ir_model.specs.declared.Kind.TheVariants.{Shortest}
use Rattle.ir_plan.specs.NodeRows.{IsNodeRow}
use Rattle.ir_plan.proofs.batches.lane_rows.Given as goal

abbrev pub invariant-loop-lane : goal.invariant-loop-lane
invariant-loop-lane l = record {
  every : length l.rows.items ≡ l.lane;
  each : (k : ℕ) → k < l.lane → IsNodeRow Shortest l.topology l.numbering.order l.numbering.parents (slice_index l.numbering.labels (l.first + k)) (slice_index_or l.rows.items k []);
}
