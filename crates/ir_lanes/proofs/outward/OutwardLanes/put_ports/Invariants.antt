use Rattle.std.proofs.Common.{◌≡◌, length, map, take}
use Rattle.ir_lanes.specs.Outward.{lane_port}
use Rattle.ir_lanes.proofs.outward.OutwardLanes.put_ports.Given as goal

abbrev pub invariant-loop-i : goal.invariant-loop-i
invariant-loop-i l = record {
  every : length l.ports ≡ length l.nodes;
  done : take l.i l.ports ≡ map (lane_port l.self l.lane) (take l.i l.nodes);
}
