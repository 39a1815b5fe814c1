use Rattle.std.proofs.Common.{◌∙◌, ◌++◌, ap, string_bytes}
use Rattle.ir_model.specs.Graph.{names}
use Rattle.ir_show.proofs.PlanLines.{nodes_more}
use Rattle.ir_exports.specs.Around.{cell}
use Rattle.ir_exports.proofs.circle.around.push_cells.Goals as goal

pub loop-d-preserved : goal.loop-d-preserved
loop-d-preserved c =
    let line = cell (names c.args.graph.now) c.args.plan.now c.args.u in
    c.in_ok-push_cell.ensures ∙ ap (λ t. t ++ line c.loop-d.d) c.loop-d.invariant ∙ nodes_more line c.loop-d.d (string_bytes c.args.text.now)
