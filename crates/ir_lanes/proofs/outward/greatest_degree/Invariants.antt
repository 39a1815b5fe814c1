use Rattle.std.proofs.Common.{ℕ, ◌<◌, ◌≤◌, length}
use Rattle.ir_model.specs.Topology.{ports_of}
use Rattle.ir_lanes.proofs.outward.greatest_degree.Given as goal

abbrev pub invariant-loop-u : goal.invariant-loop-u
invariant-loop-u l = record {
  greatest : (v : ℕ) → v < l.u → length (ports_of l.topology v) ≤ l.most;
  few : l.most ≤ 32768;
}
