use Rattle.std.proofs.Common.{◌≡◌, ◌∙◌, ◌++◌, ℕ, List, ap, string_bytes}
use Rattle.std.specs.Prelude.{◌+◌, ◌*◌, ◌==◌}
use Rattle.ir_model.specs.Graph.{names}
use Rattle.ir_model.specs.Topology.{node_count}
use Rattle.ir_model.specs.Plan.{label_in, node_in}
use Rattle.ir_trace.specs.Written.{name_at}
use Rattle.ir_exports.specs.Names.{short_name}
use Rattle.ir_exports.specs.Around.{label_text, outside}
use Rattle.ir_exports.proofs.Written.{followed}
use Rattle.ir_exports.proofs.circle.around.push_cell.Goals as goal

pub returns : goal.returns
returns c =
    let old = string_bytes c.args.text.now in
    let nodes = names c.args.graph.now in
    let plan = c.args.plan.now in
    let d = c.args.d in
    let count : c.nodes-n.result ≡ node_count plan.topology = c.nodes-n.ensures.count in
    let own : c.label_of.result ≡ label_in plan c.args.u = c.label_of.ensures in
    let node : c.node_of.result ≡ node_in plan d = c.node_of.ensures in
    let line : ℕ → ℕ → ℕ → List ℕ = λ n l v. old ++ (label_text n d ++ outside n (2 * d + 1) (d == l) (short_name (name_at nodes v))) in
    let here : string_bytes c.push_name_outside.new.text ≡ old ++ (label_text c.nodes-n.result d ++ outside c.nodes-n.result (2 * d + 1) (d == c.label_of.result) (short_name (name_at nodes c.node_of.result))) =
    followed old (label_text c.nodes-n.result d) (outside c.nodes-n.result (2 * d + 1) (d == c.label_of.result) (short_name (name_at nodes c.node_of.result))) (string_bytes c.push_label.new.text) (string_bytes c.push_name_outside.new.text) c.in_ok-push_label.ensures c.in_ok-push_name_outside.ensures in
    here
    ∙ ap (λ (n : ℕ). line n c.label_of.result c.node_of.result) count
    ∙ ap (λ (l : ℕ). line (node_count plan.topology) l c.node_of.result) own
    ∙ ap (λ (v : ℕ). line (node_count plan.topology) (label_in plan c.args.u) v) node
