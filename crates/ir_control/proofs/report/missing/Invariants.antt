use Rattle.std.specs.Prelude.{◌<◌, ℕ, sum_by}
use Rattle.ir_control.specs.Parts.{node_number}
use Rattle.ir_control.specs.Slots.{hit}
use Rattle.ir_control.proofs.report.missing.Given as goal

abbrev pub invariant-loop-u : goal.invariant-loop-u
invariant-loop-u l = (v : ℕ) → v < l.u → 0 < sum_by (hit node_number v) l.nodes.items
