use Rattle.std.proofs.Common.{◌≡◌, ◌∙◌, ◌++◌, ℕ, List, ap, string_bytes}
use Rattle.std.specs.Prelude.{codes}
use Rattle.ir_model.specs.Graph.{names}
use Rattle.ir_model.specs.Topology.{node_count}
use Rattle.ir_model.specs.Plan.{label_in}
use Rattle.ir_trace.specs.Written.{name_at}
use Rattle.ir_exports.specs.Ports.{ink}
use Rattle.ir_exports.specs.Names.{xml}
use Rattle.ir_exports.specs.Circle.{arc_start, arc_end}
use Rattle.ir_exports.proofs.Written.{followed}
use Rattle.ir_exports.proofs.circle.svg.push_own_arc.Goals as goal

pub returns : goal.returns
returns c =
    let old = string_bytes c.args.text.now in
    let plan = c.args.plan.now in
    let name = xml (name_at (names c.args.graph.now) c.args.u) in
    let count : c.nodes.result ≡ node_count plan.topology = c.nodes.ensures.count in
    let own : c.label_of.result ≡ label_in plan c.args.u = c.label_of.ensures in
    let line : ℕ → ℕ → List ℕ = λ n l. old ++ (arc_start n ink l 1 ++ name ++ codes " itself" ++ arc_end) in
    let here : string_bytes c.push_str-2.new.self ≡ old ++ (arc_start c.nodes.result ink c.label_of.result 1 ++ name ++ codes " itself" ++ arc_end) =
    followed old (arc_start c.nodes.result ink c.label_of.result 1 ++ name ++ codes " itself") (arc_end) (string_bytes c.push_str.new.self) (string_bytes c.push_str-2.new.self) (followed old (arc_start c.nodes.result ink c.label_of.result 1 ++ name) (codes " itself") (string_bytes c.push_xml_name.new.text) (string_bytes c.push_str.new.self) (followed old (arc_start c.nodes.result ink c.label_of.result 1) (name) (string_bytes c.push_arc_start.new.text) (string_bytes c.push_xml_name.new.text) c.in_ok-push_arc_start.ensures c.in_ok-push_xml_name.ensures) c.in_ok-push_str.ensures.bytes) c.in_ok-push_str-2.ensures.bytes in
    here
    ∙ ap (λ (n : ℕ). line n c.label_of.result) count
    ∙ ap (λ (l : ℕ). line (node_count plan.topology) l) own
