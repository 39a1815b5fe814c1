use Rattle.std.proofs.Common.{◌≡◌, ◌+◌, ◌-◌, ◌<◌, ◌≤◌, ℕ, length, slice_index}
use Rattle.ir_compile.proofs.sixteen.put_run.Given as goal

abbrev pub invariant-loop-at : goal.invariant-loop-at
invariant-loop-at l = record {
  further : l.from ≤ l.at;
  near : l.at ≤ l.from + l.to + 16;
  every : length l.places ≡ length l.fn.places;
  put : (k : ℕ) → l.from ≤ k → k < l.at → slice_index l.places k ≡ l.port;
  kept : (k : ℕ) → k < l.from → slice_index l.places k ≡ slice_index l.fn.places k;
}

abbrev pub decreases-loop-at : goal.decreases-loop-at
decreases-loop-at l = l.to - l.at
