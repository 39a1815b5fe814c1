use Rattle.std.proofs.Common.{◌≡◌, ℕ, ◌<◌, None, length, slice_index_or}
use Rattle.ir_tables.proofs.Settled.{IsEntry}
use Rattle.ir_tables.proofs.table.shortest_column.Given as goal

abbrev pub invariant-loop-u : goal.invariant-loop-u
invariant-loop-u l = record {
  len : length l.ports.items ≡ l.u;
  entries : (v : ℕ) → v < l.u → IsEntry l.topology l.d l.weights.items v (slice_index_or l.ports.items v None);
}
