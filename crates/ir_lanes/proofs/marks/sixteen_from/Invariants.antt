use Rattle.std.proofs.Common.{◌≡◌, ℕ, ◌+◌, ◌<◌, length, slice_index}
use Rattle.ir_lanes.specs.Marks.{node_from}
use Rattle.ir_lanes.proofs.marks.sixteen_from.Given as goal

abbrev pub invariant-loop-k : goal.invariant-loop-k
invariant-loop-k l = record {
  long : length l.sixteen.items ≡ l.k;
  each : (k : ℕ) → k < l.k → slice_index l.sixteen.items k ≡ node_from l.nodes (l.first + k);
}
