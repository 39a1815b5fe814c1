use Rattle.std.proofs.Common.{◌≡◌, length}
use Rattle.ir_model.specs.Topology.{node_count}
use Rattle.ir_lanes.specs.Lanes.{AreNear}
use Rattle.ir_lanes.proofs.sweeps.round.Given as goal

abbrev pub invariant-loop-k : goal.invariant-loop-k
invariant-loop-k l = record {
  lanes : AreNear l.topology l.lanes;
  waits : length l.waits ≡ node_count l.topology;
}
