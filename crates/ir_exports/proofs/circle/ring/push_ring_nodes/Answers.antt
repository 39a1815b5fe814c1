use Rattle.std.proofs.Common.{◌∙◌, ◌++◌, ap, string_bytes}
use Rattle.ir_model.specs.Graph.{names}
use Rattle.ir_show.proofs.PlanLines.{nodes_more}
use Rattle.ir_exports.specs.Ring.{node_of_ring}
use Rattle.ir_exports.proofs.circle.ring.push_ring_nodes.Goals as goal

pub loop-d-preserved : goal.loop-d-preserved
loop-d-preserved c =
    let line = node_of_ring (names c.args.graph.now) c.args.plan.now c.args.u in
    c.in_ok-push_ring_node.ensures ∙ ap (λ t. t ++ line c.loop-d.d) c.loop-d.invariant ∙ nodes_more line c.loop-d.d (string_bytes c.args.text.now)
