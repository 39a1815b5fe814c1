use Rattle.std.proofs.Common.{◌≡◌, ◌∙◌, ◌++◌, ℕ, List, ap, string_bytes}
use Rattle.std.proofs.Common.{get_or}
use Rattle.std.specs.Prelude.{codes}
use Rattle.ir_model.specs.Graph.{names}
use Rattle.ir_model.specs.Interval.{PortInterval}
use Rattle.ir_model.specs.Topology.{node_count}
use Rattle.ir_model.specs.Row.{intervals_of}
use Rattle.ir_model.specs.Plan.{row_in}
use Rattle.ir_trace.specs.Written.{name_at}
use Rattle.ir_show.specs.PlanText.{node_by}
use Rattle.ir_show.specs.WalkText.{no_interval}
use Rattle.ir_exports.specs.Ports.{colour, said}
use Rattle.ir_exports.specs.Names.{xml}
use Rattle.ir_exports.specs.Circle.{label_count, arc_start, arc_end, arc}
use Rattle.ir_show.specs.Intervals.{as_interval}
use Rattle.ir_exports.proofs.Written.{followed}
use Rattle.ir_exports.proofs.circle.svg.push_arc.Goals as goal

pub returns : goal.returns
returns c =
    let old = string_bytes c.args.text.now in
    let nodes = names c.args.graph.now in
    let plan = c.args.plan.now in
    let net = plan.topology in
    let u = c.args.u in
    let it = as_interval c.interval_at-interval.result in
    let m = get_or (intervals_of (row_in plan u)) c.args.i no_interval in
    let many : c.label_count-count.result ≡ label_count c.nodes-n.result it = c.label_count-count.ensures in
    let count : c.nodes-n.result ≡ node_count net = c.nodes-n.ensures.count in
    let paint : c.colour.result.now ≡ colour it.port = c.colour.ensures in
    let node : c.node_by.result ≡ node_by net u it.port = c.node_by.ensures.node in
    let is : it ≡ m = c.interval_at-interval.ensures.interval in
    let line : ℕ → List ℕ → ℕ → ℕ → List ℕ = λ n ink k v. old ++ (arc_start n ink it.start k ++ said it ++ codes " to " ++ xml (name_at nodes v) ++ arc_end) in
    let here : string_bytes c.push_str-2.new.self ≡ old ++ (arc_start c.nodes-n.result c.colour.result.now it.start c.label_count-count.result ++ said it ++ codes " to " ++ xml (name_at nodes c.node_by.result) ++ arc_end) =
    followed old (arc_start c.nodes-n.result c.colour.result.now it.start c.label_count-count.result ++ said it ++ codes " to " ++ xml (name_at nodes c.node_by.result)) (arc_end) (string_bytes c.push_xml_name.new.text) (string_bytes c.push_str-2.new.self) (followed old (arc_start c.nodes-n.result c.colour.result.now it.start c.label_count-count.result ++ said it ++ codes " to ") (xml (name_at nodes c.node_by.result)) (string_bytes c.push_str.new.self) (string_bytes c.push_xml_name.new.text) (followed old (arc_start c.nodes-n.result c.colour.result.now it.start c.label_count-count.result ++ said it) (codes " to ") (string_bytes c.push_said.new.text) (string_bytes c.push_str.new.self) (followed old (arc_start c.nodes-n.result c.colour.result.now it.start c.label_count-count.result) (said it) (string_bytes c.push_arc_start.new.text) (string_bytes c.push_said.new.text) c.in_ok-push_arc_start.ensures c.in_ok-push_said.ensures) c.in_ok-push_str.ensures.bytes) c.in_ok-push_xml_name.ensures) c.in_ok-push_str-2.ensures.bytes in
    here
    ∙ ap (λ (k : ℕ). line c.nodes-n.result c.colour.result.now k c.node_by.result) many
    ∙ ap (λ (n : ℕ). line n c.colour.result.now (label_count n it) c.node_by.result) count
    ∙ ap (λ (ink : List ℕ). line (node_count net) ink (label_count (node_count net) it) c.node_by.result) paint
    ∙ ap (λ (v : ℕ). line (node_count net) (colour it.port) (label_count (node_count net) it) v) node
    ∙ ap (λ (x : PortInterval). old ++ (arc nodes plan u x)) is
