use Rattle.std.proofs.Common.{◌<◌, ◌≤◌, ℕ}
use Rattle.ir_model.specs.Choices.{label_from}
use Rattle.ir_model.proofs.Steps.{Steps}
use Rattle.ir_compile.proofs.round.first_to.Given as goal

abbrev pub invariant-loop-t : goal.invariant-loop-t
invariant-loop-t l = record {
  off_own : 0 < l.best;
  earlier : l.best < l.t;
  in_round : l.best < l.n;
  few : l.fewest ≤ l.first;
  from : Steps l.n l.counts (label_from l.n l.own l.best) 0 l.fewest;
  before : (i : ℕ) → 0 < i → i < l.best → (others : ℕ) × Steps l.n l.counts (label_from l.n l.own i) 0 others × (l.fewest < others);
  near : (i : ℕ) → 0 < i → i < l.t → (others : ℕ) × Steps l.n l.counts (label_from l.n l.own i) 0 others × (l.fewest ≤ others);
}
