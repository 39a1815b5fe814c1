use Rattle.std.proofs.Common.{◌≡◌, ◌<◌, ◌≤◌, ◌+◌, ℕ, None, length, slice_index, slice_index_or}
use Rattle.ir_model.specs.Row.{labels, IsPlaceOf}
use Rattle.ir_model.specs.Topology.{node_count}
use Rattle.ir_model.specs.Plan.{row_in, table_port, node_in}
use Rattle.ir_figures.proofs.column.read_column.Given as goal

abbrev pub invariant-loop-u : goal.invariant-loop-u
invariant-loop-u l = record {
  places : length l.places.items ≡ node_count l.plan.topology;
  ports : length l.column.items ≡ node_count l.plan.topology;
  within : (w : ℕ) → w < node_count l.plan.topology → slice_index l.places.items w ≤ length (row_in l.plan w);
  next : (w : ℕ) → w < l.u → 1 < node_count l.plan.topology → IsPlaceOf (labels (row_in l.plan w)) (l.a + 1) (slice_index l.places.items w);
  here : (w : ℕ) → l.u ≤ w → w < node_count l.plan.topology → 1 < node_count l.plan.topology → IsPlaceOf (labels (row_in l.plan w)) l.a (slice_index l.places.items w);
  read : (w : ℕ) → w < l.u → slice_index_or l.column.items w None ≡ table_port l.plan w (node_in l.plan l.a);
}
