use Rattle.std.proofs.Common.{◌≡◌, ◌∙◌, ◌++◌, ℕ, ap, string_bytes}
use Rattle.std.specs.Prelude.{codes, flat_map}
use Rattle.ir_model.specs.Graph.{names}
use Rattle.ir_model.specs.Topology.{node_count}
use Rattle.ir_model.specs.Row.{intervals_of}
use Rattle.ir_model.specs.Plan.{row_in}
use Rattle.ir_exports.specs.Circle.{arc, own_arc, label_marks, ring_start}
use Rattle.ir_exports.proofs.Written.{followed}
use Rattle.ir_exports.proofs.circle.svg.push_ring.Goals as goal

pub returns : goal.returns
returns c =
    let old = string_bytes c.args.text.now in
    let nodes = names c.args.graph.now in
    let plan = c.args.plan.now in
    let u = c.args.u in
    let arcs = flat_map (arc nodes plan u) (intervals_of (row_in plan u)) in
    let count : c.nodes-n.result ≡ node_count plan.topology = c.nodes-n.ensures.count in
    let here : string_bytes c.push_str.new.self ≡ old ++ (ring_start c.nodes-n.result ++ arcs ++ own_arc nodes plan u ++ label_marks c.nodes-n.result ++ codes "</g>\n</svg>\n") =
    followed old (ring_start c.nodes-n.result ++ arcs ++ own_arc nodes plan u ++ label_marks c.nodes-n.result) (codes "</g>\n</svg>\n") (string_bytes c.push_marks.new.text) (string_bytes c.push_str.new.self) (followed old (ring_start c.nodes-n.result ++ arcs ++ own_arc nodes plan u) (label_marks c.nodes-n.result) (string_bytes c.push_own_arc.new.text) (string_bytes c.push_marks.new.text) (followed old (ring_start c.nodes-n.result ++ arcs) (own_arc nodes plan u) (string_bytes c.push_arcs.new.text) (string_bytes c.push_own_arc.new.text) (followed old (ring_start c.nodes-n.result) (arcs) (string_bytes c.push_ring_start.new.text) (string_bytes c.push_arcs.new.text) c.in_ok-push_ring_start.ensures c.in_ok-push_arcs.ensures) c.in_ok-push_own_arc.ensures) c.in_ok-push_marks.ensures) c.in_ok-push_str.ensures.bytes in
    here
    ∙ ap (λ (n : ℕ). old ++ (ring_start n ++ arcs ++ own_arc nodes plan u ++ label_marks n ++ codes "</g>\n</svg>\n")) count
