use Rattle.std.proofs.Common.{◌≡◌, ◌<◌, ◌≤◌, ℕ, slice_index}
use Rattle.ir_model.specs.Row.{start_ports}
use Rattle.ir_lines.proofs.tree.greatest_port.Given as goal

abbrev pub invariant-loop-place : goal.invariant-loop-place
invariant-loop-place l = record {
  every : (k : ℕ) → k < l.place → slice_index (start_ports l.row) k ≤ l.greatest;
  some : 0 < l.greatest → (k : ℕ) × (k < l.place) × (slice_index (start_ports l.row) k ≡ l.greatest);
}
