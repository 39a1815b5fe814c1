use Rattle.std.proofs.Common.{◌≡◌, ◌<◌, ◌≤◌, ℕ, length, vec_len, slice_index}
use Rattle.ir_model.specs.Row.{labels, IsPlaceOf}
use Rattle.ir_model.specs.Topology.{node_count}
use Rattle.ir_model.specs.Plan.{row_in}
use Rattle.ir_figures.proofs.column.first_places.Given as goal

abbrev pub invariant-loop-u : goal.invariant-loop-u
invariant-loop-u l = record {
  every : vec_len l.places ≡ l.u;
  within : (w : ℕ) → w < l.u → slice_index l.places.items w ≤ length (row_in l.plan w);
  each : (w : ℕ) → w < l.u → 1 < node_count l.plan.topology → IsPlaceOf (labels (row_in l.plan w)) 0 (slice_index l.places.items w);
}
