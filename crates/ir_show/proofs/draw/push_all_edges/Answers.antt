use Rattle.std.proofs.Common.{◌∙◌, ◌++◌, ap, string_bytes}
use Rattle.ir_model.specs.Graph.{names}
use Rattle.ir_show.specs.Drawing.{edge_lines}
use Rattle.ir_show.proofs.PlanLines.{nodes_more}
use Rattle.ir_show.proofs.draw.push_all_edges.Goals as goal

pub loop-u-preserved : goal.loop-u-preserved
loop-u-preserved c =
    let lines = edge_lines (names c.args.graph.now) c.args.plan.now c.args.walk.now in
    c.in_ok-push_edges.ensures ∙ ap (λ t. t ++ lines c.loop-u.u) c.loop-u.invariant ∙ nodes_more lines c.loop-u.u (string_bytes c.args.text.now)
