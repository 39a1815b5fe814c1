use Rattle.std.proofs.Common.{◌+◌, ◌<◌, ℕ, refl, arith}
use Rattle.ir_model.specs.Topology.{node_count}
use Rattle.ir_bounds.proofs.Parts.{parts_more}
use Rattle.ir_plan.proofs.BatchRows.{source_here}
use Rattle.ir_plan.proofs.near.lane_parts.Goals as goal

pub overflow_cast-u : goal.overflow_cast-u
overflow_cast-u c =
    let inside = c.loop-lane-test.true in
    let end = c.min-lane-end.ensures in
    let count = c.nodes-nodes.ensures.count in
    let few = c.nodes-nodes.ensures.topology.few_nodes in
    omega (arith, inside, end, count, few)

pub distances_of-requires : goal.distances_of-requires
distances_of-requires c =
    let inside = c.loop-lane-test.true in
    let end = c.min-lane-end.ensures in
    let count = c.nodes-nodes.ensures.count in
    let node : c.args.first + c.loop-lane.lane < node_count c.args.topology.now = omega (arith, inside, end, count) in
    let lane : c.loop-lane.lane < 16 = omega (arith, inside, end) in
    record {
      connected = c.requires.connected;
      node = node;
      lane = lane;
      ways = c.requires.ways;
      source = source_here c.args.found.now (node_count c.args.topology.now) c.args.first c.loop-lane.lane lane node c.requires.sources;
    }

pub loop-lane-preserved : goal.loop-lane-preserved
loop-lane-preserved c =
    let first : ℕ = c.args.first in
    let put = rw c.as_slice-in-loop-lane.ensures.value at c.in_ok-extend_from_slice.ensures.items in
    rw put
    (parts_more c.loop-lane.list.items c.in_ok-part.part.items c.args.topology.now c.args.owners.now.landmarks.items c.args.stretch first c.loop-lane.lane (first + c.loop-lane.lane) refl c.loop-lane.invariant c.in_ok-part.ensures)
