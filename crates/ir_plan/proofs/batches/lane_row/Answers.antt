use Rattle.std.proofs.Common.{◌≡◌, ◌<◌, ◌∙◌, ℕ, List, length, map, ap, sym, subst, arith}
use Rattle.std.proofs.lemmas.List.{length-map}
use Rattle.std.proofs.lemmas.Result.{IfOk-weaker}
use Rattle.std.specs.Prelude.{slice_index}
use Rattle.ir_model.specs.declared.Kind.TheVariants.{Shortest}
use Rattle.ir_model.specs.Row.{Start}
use Rattle.ir_model.specs.Topology.{node_count}
use Rattle.ir_model.specs.Compiled.{IsCanonical}
use Rattle.ir_compile.specs.Plain.{StandFor}
use Rattle.ir_lanes.specs.Outward.{AreOutwardLanes, lane_port, source_at}
use Rattle.ir_tables.specs.FromNode.{held_at, AreLeastPorts}
use Rattle.ir_plan.specs.NodeRows.{IsNodeRow}
use Rattle.ir_plan.proofs.NodeRows.{least_by_label, least_destinations}
use Rattle.ir_plan.proofs.LaneRows.{held_of, held_least, lane_stands}
use Rattle.ir_plan.proofs.batches.lane_row.Goals as goal

pub overflow_cast-nodes : goal.overflow_cast-nodes
overflow_cast-nodes c =
    let few = c.nodes-nodes.ensures.topology.few_nodes in
    let count = c.nodes-nodes.ensures.count in
    omega (arith, few, count)

pub ports_along-requires : goal.ports_along-requires
ports_along-requires c =
    let net = c.args.topology.now in
    let labels = c.requires.labels in
    let low = c.requires.lane in
    let nodes : (i : ℕ) → i < length c.args.numbering.now.order → slice_index c.args.numbering.now.order i < node_count net =
    λ i within. labels.node i (subst (λ (n : ℕ). i < n) labels.every_label within) in
    record {
      ways = rw c.in-Some.is at c.requires.ways;
      lane = omega (arith, low);
      nodes = subst (λ (xs : List ℕ). (i : ℕ) → i < length xs → slice_index xs i < node_count net) (sym c.order.ensures) nodes;
    }

pub row_of_ports-requires : goal.row_of_ports-requires
row_of_ports-requires c =
    let order = c.order.result.now in
    let made : length c.in_ok-ports-in-Some.ports.items ≡ length order =
    ap (λ (xs : List ℕ). length xs) c.in_ok-ports-in-Some.ensures ∙ length-map order _ in
    let every : length order ≡ node_count c.args.topology.now = ap (λ (xs : List ℕ). length xs) c.order.ensures ∙ c.requires.labels.every_label in
    record {
      own = rw (c.label_of.ensures, c.nodes-nodes.ensures.count) (c.requires.labels.label c.args.u c.requires.node);
      every = ap (λ (xs : List ℕ). length xs) c.as_slice.ensures.value ∙ made ∙ every ∙ sym c.nodes-nodes.ensures.count;
    }

pub searched_row-requires : goal.searched_row-requires
searched_row-requires c = record { labels = c.requires.labels; connected = c.requires.connected; node = c.requires.node }

pub returns-in-None : goal.returns-in-None
returns-in-None c = c.searched_row.ensures

pub returns-in_ok-ports-in-Some : goal.returns-in_ok-ports-in-Some
returns-in_ok-ports-in-Some c =
    let net = c.args.topology.now in
    let numbers = c.args.numbering.now in
    let ways = c.in-Some.ways in
    let k = c.args.lane in
    let are : AreOutwardLanes net ways = rw c.in-Some.is at c.requires.ways in
    let source : source_at ways k ≡ c.args.u = rw c.in-Some.is at c.requires.source in
    let a = slice_index numbers.labels c.args.u in
    let held = held_of net ways are k c.requires.lane in
    let ports = map (held_at held) numbers.order in
    let plain : List ℕ = map (lane_port ways k) numbers.order in
    let least : AreLeastPorts net c.args.u held = subst (λ (u : ℕ). AreLeastPorts net u held) source (held_least net ways are k c.requires.lane) in
    let stand : StandFor (node_count net) a plain ports =
    subst (λ (u : ℕ). StandFor (node_count net) (slice_index numbers.labels u) plain ports) source (lane_stands net ways are k c.requires.lane numbers.order numbers.labels c.requires.labels) in
    let made = rw (c.nodes-nodes.ensures.count, c.label_of.ensures, c.as_slice.ensures.value, c.in_ok-ports-in-Some.ensures, c.order.ensures) at c.row_of_ports.ensures in
    IfOk-weaker c.row_of_ports.result (λ (row : List Start). IsCanonical (node_count net) a ports row) (λ (row : List Start). IsNodeRow Shortest net numbers.order numbers.parents a row)
    (λ row canonical. record {
      ports = ports;
      ports_of_kind = least_by_label net numbers.order numbers.labels c.requires.labels c.args.u c.requires.node held least;
      destinations = least_destinations net numbers.order numbers.labels c.requires.labels c.args.u c.requires.node held least;
      canonical = canonical;
    })
    (made ports stand)
