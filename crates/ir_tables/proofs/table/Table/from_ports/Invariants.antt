use Rattle.std.proofs.Common.{◌≡◌, ℕ, ◌<◌, length, slice_index_or}
use Rattle.ir_tables.specs.declared.table.Column.{Column}
use Rattle.ir_tables.specs.Listed.{IsListedColumn}
use Rattle.ir_tables.proofs.table.Table.from_ports.Given as goal

abbrev pub invariant-loop-d : goal.invariant-loop-d
invariant-loop-d l = record {
  len : length l.columns.items ≡ l.d;
  columns : (k : ℕ) (e : Column) → k < l.d → IsListedColumn l.topology l.ports.items k (slice_index_or l.columns.items k e).ports.items (slice_index_or l.columns.items k e).weights.items;
}
