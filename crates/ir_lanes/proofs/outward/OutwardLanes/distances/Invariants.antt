use Rattle.std.proofs.Common.{◌≡◌, ℕ, ◌<◌, length}
use Rattle.ir_tables.specs.Relaxation.{at}
use Rattle.ir_lanes.specs.Outward.{lane_weight}
use Rattle.ir_lanes.proofs.outward.OutwardLanes.distances.Given as goal

abbrev pub invariant-loop-v : goal.invariant-loop-v
invariant-loop-v l = record {
  every : length l.weights.items ≡ l.v;
  each : (d : ℕ) → d < l.v → at l.weights.items d ≡ lane_weight l.self l.lane d;
}
