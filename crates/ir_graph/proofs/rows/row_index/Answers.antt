use Rattle.std.proofs.Common.{◌∙◌, sym}
use Rattle.ir_graph.proofs.Views.{has_node-view, place-names, place-view, IsDistinct-view}
use Rattle.ir_graph.proofs.rows.row_index.Goals as goal

pub returns-clause-index : goal.returns-clause-index
returns-clause-index c = c.get_index_of.ensures.index ∙ sym (place-view c.args.rows.now c.args.name.now)

pub returns-clause-found : goal.returns-clause-found
returns-clause-found c = place-names c.args.rows.now c.args.name.now c.get_index_of.result c.get_index_of.ensures.index

pub returns-clause-has : goal.returns-clause-has
returns-clause-has c = c.get_index_of.ensures.found ∙ sym (has_node-view c.args.rows.now c.args.name.now)

pub returns-clause-differ : goal.returns-clause-differ
returns-clause-differ c = IsDistinct-view c.args.rows.now.entries c.get_index_of.ensures.unique
