use Rattle.std.proofs.Common.{◌≡◌, length}
use Rattle.ir_model.specs.Topology.{node_count}
use Rattle.ir_lanes.specs.Lanes.{AreNear}
use Rattle.ir_lanes.proofs.sweeps.rounds.Given as goal

abbrev pub invariant-loop-turn : goal.invariant-loop-turn
invariant-loop-turn l = record {
  lanes : AreNear l.topology l.lanes;
  waits : length l.waits ≡ node_count l.topology;
}
