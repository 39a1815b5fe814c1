use Rattle.std.proofs.Common.{◌≡◌, ◌++◌, flat_map, string_bytes}
use Rattle.std.specs.List.{range_with_len}
use Rattle.ir_model.specs.Graph.{names}
use Rattle.ir_model.specs.Topology.{node_count}
use Rattle.ir_exports.specs.Ring.{edge_of_ring, node_of_ring, port_box, ring_head}
use Rattle.ir_exports.proofs.circle.ring.circle_dot.Given as goal

abbrev pub invariant-loop-port : goal.invariant-loop-port
invariant-loop-port l =
    string_bytes l.text
    ≡ ((ring_head ++ flat_map (node_of_ring (names l.graph) l.plan l.u) (range_with_len 0 (node_count l.plan.topology))) ++ flat_map (edge_of_ring (names l.graph) l.plan) (range_with_len 0 (node_count l.plan.topology)))
    ++ flat_map (port_box (names l.graph) l.plan l.u) (range_with_len 0 l.port)
