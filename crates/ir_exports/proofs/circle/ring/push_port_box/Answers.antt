use Rattle.std.proofs.Common.{◌++◌, ◌∙◌, List, ℕ, ap, string_bytes}
use Rattle.std.specs.Prelude.{codes, decimal}
use Rattle.ir_model.specs.Graph.{names}
use Rattle.ir_trace.specs.Written.{name_at}
use Rattle.ir_show.specs.Quoted.{escaped}
use Rattle.ir_exports.specs.Ports.{colour, first_intervals, intervals_by}
use Rattle.ir_exports.proofs.Written.{ended, seven}
use Rattle.ir_exports.proofs.circle.ring.push_port_box.Goals as goal

pub returns : goal.returns
returns c =
    let old = string_bytes c.args.text.now in
    let head = codes "  \"port " ++ decimal c.args.port ++ codes "\" [fillcolor=\"" in
    let name : ℕ → List ℕ = λ v. escaped (name_at (names c.args.graph.now) v) in
    let first = first_intervals (intervals_by c.args.plan.now c.args.u c.args.port) in
    let line : List ℕ → ℕ → List ℕ = λ ink v. old ++ (head ++ ink ++ codes "\", label=\"" ++ name v ++ codes ":" ++ first ++ codes "\"];\n") in
    ended c.push_str-4.result _ _ (codes "\"];\n") _ c.push_str-4.ensures.bytes
    (seven old _ _ _ _ _ _ head c.colour.result.now (codes "\", label=\"") (name c.node_by.result) (codes ":") first (codes "\"];\n")
    c.in_ok-write.ensures.bytes c.in_ok-push_str.ensures.bytes c.in_ok-push_str-2.ensures.bytes c.in_ok-push_escaped_name.ensures c.in_ok-push_str-3.ensures.bytes c.in_ok-push_first.ensures
    ∙ ap (λ (ink : List ℕ). line ink c.node_by.result) c.colour.ensures ∙ ap (line (colour c.args.port)) c.node_by.ensures.node)
