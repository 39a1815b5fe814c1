use Rattle.std.proofs.Common.{◌<◌, ◌≢◌, ℕ}
use Rattle.ir_model.proofs.Best.{Marks}
use Rattle.ir_compile.proofs.runs.front_run.Given as goal

abbrev pub invariant-loop-d : goal.invariant-loop-d
invariant-loop-d l = (i : ℕ) → i < l.d → i ≢ l.own → Marks l.row i
