use Rattle.std.proofs.Common.{◌≡◌, ℕ, ◌<◌, length}
use Rattle.std.specs.Prelude.{slice_index}
use Rattle.ir_model.specs.Plan.{table_port}
use Rattle.ir_plan.specs.Distances.{column_port}
use Rattle.ir_plan.proofs.distances.column.Given as goal

abbrev pub invariant-loop-u : goal.invariant-loop-u
invariant-loop-u l = record { every : length l.ports.items ≡ l.u; ports : (k : ℕ) → k < l.u → slice_index l.ports.items k ≡ column_port (table_port l.plan k l.d) }
