use Rattle.std.proofs.Common.{◌≡◌, ℕ, ◌<◌, [], length}
use Rattle.std.specs.Prelude.{slice_index, slice_index_or}
use Rattle.ir_plan.specs.Distances.{lists_of, unlike}
use Rattle.ir_plan.proofs.distances.row.Given as goal

abbrev pub invariant-loop-column : goal.invariant-loop-column
invariant-loop-column l = record { every : length l.row.items ≡ l.column-index; each : (b : ℕ) → b < l.column-index → slice_index l.row.items b ≡ unlike l.own (slice_index_or (lists_of l.columns) b []) }
