use Rattle.std.proofs.Common.{◌≡◌, ◌∙◌, ◌++◌, ℕ, List, ap, string_bytes}
use Rattle.std.specs.Prelude.{◌+◌, ◌*◌, true}
use Rattle.ir_model.specs.Graph.{names}
use Rattle.ir_model.specs.Topology.{node_count}
use Rattle.ir_model.specs.Plan.{label_in}
use Rattle.ir_trace.specs.Written.{name_at}
use Rattle.ir_exports.specs.Names.{short_name}
use Rattle.ir_exports.specs.Around.{starts, outside}
use Rattle.ir_exports.proofs.Written.{followed}
use Rattle.ir_exports.proofs.circle.around.push_bounds.Goals as goal

pub returns : goal.returns
returns c =
    let old = string_bytes c.args.text.now in
    let plan = c.args.plan.now in
    let name = short_name (name_at (names c.args.graph.now) c.args.u) in
    let count : c.nodes-n.result ≡ node_count plan.topology = c.nodes-n.ensures.count in
    let own : c.label_of.result ≡ label_in plan c.args.u = c.label_of.ensures in
    let line : ℕ → ℕ → List ℕ = λ n l. old ++ (starts plan c.args.u ++ outside n (2 * l + 1) true name) in
    let here : string_bytes c.push_name_outside.new.text ≡ old ++ (starts plan c.args.u ++ outside c.nodes-n.result (2 * c.label_of.result + 1) true name) =
    followed old (starts plan c.args.u) (outside c.nodes-n.result (2 * c.label_of.result + 1) true name) (string_bytes c.push_starts.new.text) (string_bytes c.push_name_outside.new.text) c.in_ok-push_starts.ensures c.in_ok-push_name_outside.ensures in
    here
    ∙ ap (λ (n : ℕ). line n c.label_of.result) count
    ∙ ap (λ (l : ℕ). line (node_count plan.topology) l) own
