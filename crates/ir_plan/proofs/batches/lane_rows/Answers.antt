use Rattle.std.proofs.Common.{◌+◌, ◌<◌, ℕ, List, length, ap, arith}
use Rattle.std.specs.Prelude.{slice_index}
use Rattle.ir_model.specs.declared.Kind.TheVariants.{Shortest}
use Rattle.ir_model.specs.Row.{Start}
use Rattle.ir_model.specs.Topology.{node_count}
use Rattle.ir_plan.specs.NodeRows.{IsNodeRow}
use Rattle.ir_plan.proofs.BatchRows.{read_more, source_here}
use Rattle.ir_plan.proofs.batches.lane_rows.Goals as goal

pub loop-lane-init : goal.loop-lane-init
loop-lane-init c = record {
  every = ap (λ (rows : List (List Start)). length rows) c.in_ok-rows.ensures.items;
  each = λ k h. absurd (omega (arith, h));
}

pub overflow_cast-u : goal.overflow_cast-u
overflow_cast-u c =
    let inside = c.loop-lane-test.true in
    let end = c.min-lane-end.ensures in
    let count = c.nodes-nodes.ensures.count in
    let few = c.nodes-nodes.ensures.topology.few_nodes in
    omega (arith, inside, end, count, few)

pub lane_row-requires : goal.lane_row-requires
lane_row-requires c =
    let inside = c.loop-lane-test.true in
    let end = c.min-lane-end.ensures in
    let count = c.nodes-nodes.ensures.count in
    let node : c.args.first + c.loop-lane.lane < node_count c.args.topology.now = omega (arith, inside, end, count) in
    let lane : c.loop-lane.lane < 16 = omega (arith, inside, end) in
    record {
      labels = c.requires.labels;
      connected = c.requires.connected;
      node = node;
      lane = lane;
      ways = c.requires.ways;
      source = source_here c.args.found.now (node_count c.args.topology.now) c.args.first c.loop-lane.lane lane node c.requires.sources;
    }

pub loop-lane-preserved : goal.loop-lane-preserved
loop-lane-preserved c =
    let net = c.args.topology.now in
    let numbers = c.args.numbering.now in
    let i = c.loop-lane.invariant in
    let more = read_more (λ (k : ℕ) (row : List Start). IsNodeRow Shortest net numbers.order numbers.parents (slice_index numbers.labels (c.args.first + k)) row)
    c.loop-lane.lane c.loop-lane.rows.items c.push.new.self.items c.in_ok-lane_row.field-0 i.every i.each c.in_ok-push.ensures.items c.in_ok-lane_row.ensures in
    record { every = more.0; each = more.1 }

pub returns : goal.returns
returns c =
    let i = c.loop-lane.invariant in
    let long = i.every in
    let end = c.min-lane-end.ensures in
    let count = c.nodes-nodes.ensures.count in
    let past = c.loop-lane-test.false in
    let most = c.loop-lane.auto.lane-end in
    record { every = omega (arith, long, end, count, past, most); each = λ k h. i.each k (omega (arith, h, long)) }
