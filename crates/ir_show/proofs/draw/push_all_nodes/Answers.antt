use Rattle.std.proofs.Common.{◌∙◌, ◌++◌, ap, string_bytes}
use Rattle.ir_model.specs.Graph.{names}
use Rattle.ir_show.specs.Drawing.{node_line}
use Rattle.ir_show.proofs.PlanLines.{nodes_more}
use Rattle.ir_show.proofs.draw.push_all_nodes.Goals as goal

pub loop-u-preserved : goal.loop-u-preserved
loop-u-preserved c =
    let line = node_line (names c.args.graph.now) c.args.plan.now c.args.landmarks.now in
    c.in_ok-push_node.ensures ∙ ap (λ t. t ++ line c.loop-u.u) c.loop-u.invariant ∙ nodes_more line c.loop-u.u (string_bytes c.args.text.now)
