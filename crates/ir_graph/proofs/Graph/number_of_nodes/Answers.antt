use Rattle.std.proofs.Common.{subst}
use Rattle.ir_model.specs.Graph.{IsGraph}
use Rattle.ir_graph.specs.View.{rows_view}
use Rattle.ir_graph.proofs.Views.{IsDistinct-view}
use Rattle.ir_graph.proofs.Keeping.{graph_from}
use Rattle.ir_graph.proofs.Graph.number_of_nodes.Goals as goal

pub returns-clause-graph : goal.returns-clause-graph
returns-clause-graph c =
    subst IsGraph c.self.view_is (graph_from (rows_view c.self.inside.rows) c.self.inside.edge_count (IsDistinct-view c.self.inside.rows.entries c.len.ensures.unique) c.self.invariant)
