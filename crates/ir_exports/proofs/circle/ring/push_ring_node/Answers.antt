use Rattle.std.proofs.Common.{◌++◌, ◌∙◌, List, ℕ, ap, string_bytes}
use Rattle.std.specs.Prelude.{codes, decimal}
use Rattle.ir_model.specs.Graph.{names}
use Rattle.ir_model.specs.Plan.{node_in}
use Rattle.ir_trace.specs.Written.{name_at}
use Rattle.ir_show.specs.Quoted.{escaped, quoted}
use Rattle.ir_exports.specs.Ring.{paint}
use Rattle.ir_exports.proofs.Written.{ended, seven, three}
use Rattle.ir_exports.proofs.circle.ring.push_ring_node.Goals as goal

pub returns : goal.returns
returns c =
    let old = string_bytes c.args.text.now in
    let name : ℕ → List ℕ = λ v. name_at (names c.args.graph.now) v in
    let front : ℕ → List ℕ = λ v. codes "  " ++ quoted (name v) ++ codes " [label=\"" ++ escaped (name v) in
    let label : List ℕ = decimal c.args.d in
    let line : ℕ → List ℕ → List ℕ = λ v ink. old ++ (front v ++ codes "\\n" ++ label ++ codes "\", fillcolor=\"" ++ ink ++ codes "\"];\n") in
    let ink = c.paint.result.now in
    let v = c.node_of-v.result in
    ended c.push_str-4.result _ _ (codes "\"];\n") _ c.push_str-4.ensures.bytes
    (seven old _ _ _ _ _ _ (codes "  ") (quoted (name v)) (codes " [label=\"") (escaped (name v)) (codes "\\n" ++ label ++ codes "\", fillcolor=\"") ink (codes "\"];\n")
    c.in_ok-push_str.ensures.bytes c.in_ok-push_quoted.ensures c.in_ok-push_str-2.ensures.bytes c.in_ok-push_escaped_name.ensures c.in_ok-write.ensures.bytes c.in_ok-push_str-3.ensures.bytes
    ∙ ap (λ (t : List ℕ). old ++ (t ++ ink ++ codes "\"];\n")) (three (front v) (codes "\\n") label (codes "\", fillcolor=\""))
    ∙ ap (λ (w : ℕ). line w ink) c.node_of-v.ensures ∙ ap (line (node_in c.args.plan.now c.args.d)) (c.paint.ensures ∙ ap paint c.port.ensures))
