use Rattle.std.proofs.Common.{◌≡◌, ◌<◌, ℕ, length, None}
use Rattle.std.specs.Prelude.{slice_index_or}
use Rattle.ir_numbering.specs.Numbering.{IsParentPort}
use Rattle.ir_numbering.proofs.parents.parent_ports.Given as goal

abbrev pub invariant-loop-u : goal.invariant-loop-u
invariant-loop-u l = record {
  every : length l.ports.items ≡ l.u;
  each : (v : ℕ) → v < l.u → IsParentPort l.topology l.order l.parents v (slice_index_or l.ports.items v None);
}
