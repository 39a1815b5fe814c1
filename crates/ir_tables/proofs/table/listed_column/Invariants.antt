use Rattle.std.proofs.Common.{◌≡◌, ℕ, ◌<◌, None, length, slice_index_or}
use Rattle.ir_tables.specs.Listed.{listed_port}
use Rattle.ir_model.specs.Topology.{node_count}
use Rattle.ir_tables.proofs.table.listed_column.Given as goal

abbrev pub invariant-loop-u : goal.invariant-loop-u
invariant-loop-u l = record {
  len : length l.held.items ≡ l.u;
  entries : (v : ℕ) → v < l.u → slice_index_or l.held.items v None ≡ listed_port (node_count l.topology) l.ports v l.d;
}
