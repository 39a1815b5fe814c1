use Rattle.std.proofs.Common.{◌≡◌, ◌<◌, ◌≤◌, ℕ, length}
use Rattle.std.specs.Prelude.{slice_index_or}
use Rattle.ir_prefix.specs.Runs.{IsRunFrom}
use Rattle.ir_prefix.specs.declared.runs.LabelRun.{LabelRun}
use Rattle.ir_prefix.proofs.runs.runs_of.Given as goal

abbrev pub invariant-loop-x : goal.invariant-loop-x
invariant-loop-x l = record {
  inside : l.x ≤ length l.ports;
  every : length l.runs.items ≡ length l.ports;
  ahead : IsRunFrom l.ports l.x l.run;
  done : (d : ℕ) (none : LabelRun) → l.x ≤ d → d < length l.ports → IsRunFrom l.ports d (slice_index_or l.runs.items d none) × (d < (slice_index_or l.runs.items d none).end);
}

abbrev pub decreases-loop-x : goal.decreases-loop-x
decreases-loop-x l = l.x
