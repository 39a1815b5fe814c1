use Rattle.std.proofs.Common.{◌≡◌, ◌++◌, flat_map, string_bytes}
use Rattle.std.specs.List.{range_with_len}
use Rattle.ir_model.specs.Graph.{names}
use Rattle.ir_exports.specs.Ring.{node_of_ring}
use Rattle.ir_exports.proofs.circle.ring.push_ring_nodes.Given as goal

abbrev pub invariant-loop-d : goal.invariant-loop-d
invariant-loop-d l = string_bytes l.text ≡ string_bytes l.fn.text ++ flat_map (node_of_ring (names l.graph) l.plan l.u) (range_with_len 0 l.d)
