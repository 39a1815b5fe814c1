use Rattle.std.proofs.Common.{◌≡◌, length}
use Rattle.ir_model.specs.Topology.{node_count}
use Rattle.ir_lanes.proofs.sweeps.wake.Given as goal

abbrev pub invariant-loop-hop : goal.invariant-loop-hop
invariant-loop-hop l = length l.waits ≡ node_count l.topology
