use Rattle.std.proofs.Common.{◌≢◌, ◌<◌, ◌≤◌, ◌+◌, ◌-◌, ℕ}
use Rattle.ir_model.specs.Choices.{label_from}
use Rattle.ir_compile.specs.Rounds.{Reaches}
use Rattle.ir_compile.proofs.round.round_from.Given as goal

abbrev pub invariant-loop-place : goal.invariant-loop-place
invariant-loop-place l = record {
  inside : l.place ≤ l.n + l.n;
  few : l.steps ≤ l.place;
  off : l.place < l.n → label_from l.n l.start l.place ≢ l.own;
  rest : (k e : ℕ) → Reaches l.n l.counts l.start l.place k e → Reaches l.n l.counts l.start 0 (l.steps + k) e;
}

abbrev pub decreases-loop-place : goal.decreases-loop-place
decreases-loop-place l = l.n - l.place
