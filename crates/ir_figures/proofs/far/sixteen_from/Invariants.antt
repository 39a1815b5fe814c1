use Rattle.std.proofs.Common.{◌≡◌, ℕ, ◌+◌, ◌-◌, ◌<◌, min, length, slice_index}
use Rattle.ir_figures.proofs.far.sixteen_from.Given as goal

abbrev pub invariant-loop-k : goal.invariant-loop-k
invariant-loop-k l = record {
  long : length l.sixteen.items ≡ l.k;
  each : (k : ℕ) → k < l.k → slice_index l.sixteen.items k ≡ min (l.first + k) (l.nodes - 1);
}
