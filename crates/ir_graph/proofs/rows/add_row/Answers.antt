use Rattle.std.proofs.Common.{◌∙◌, ap}
use Rattle.ir_model.specs.Graph.{has_node, with_node}
use Rattle.ir_graph.specs.View.{rows_view}
use Rattle.ir_graph.proofs.Views.{with_node-view, IsDistinct-view}
use Rattle.ir_graph.proofs.rows.add_row.Goals as goal

pub returns-clause-ok : goal.returns-clause-ok
returns-clause-ok c =
    let spelled = c.in_ok-key.ensures.ok in
    with_node-view c.args.rows.now c.insert.new.self c.in_ok-key.key c.new.result (ap (has_node (rows_view c.args.rows.now)) spelled ∙ c.requires) c.new.ensures.empty c.in_ok-insert.ensures.entries
    ∙ ap (with_node (rows_view c.args.rows.now)) spelled

pub returns-clause-differ : goal.returns-clause-differ
returns-clause-differ c = IsDistinct-view c.insert.new.self.entries c.in_ok-insert.ensures.unique
