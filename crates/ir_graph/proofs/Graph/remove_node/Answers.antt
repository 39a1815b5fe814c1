use Rattle.std.proofs.Common.{◌-◌, sym, subst}
use Rattle.ir_graph.specs.View.{rows_view}
use Rattle.ir_graph.specs.Kept.{IsKept}
use Rattle.ir_graph.proofs.Leaving.{kept-without_node}
use Rattle.ir_graph.proofs.Graph.remove_node.Goals as goal

pub overflow_sub-self : goal.overflow_sub-self
overflow_sub-self c = (kept-without_node c.row_len-links.result (rows_view c.self.inside.rows) c.self.inside.edge_count c.args.name.now c.drop_row.ensures.differ (sym c.row_len-links.ensures.len) c.self.invariant).0

pub invariant_of-self : goal.invariant_of-self
invariant_of-self c =
    subst (λ g. IsKept g (c.self.inside.edge_count - c.row_len-links.result)) (sym c.drop_row.ensures.dropped)
    (kept-without_node c.row_len-links.result (rows_view c.self.inside.rows) c.self.inside.edge_count c.args.name.now c.drop_row.ensures.differ (sym c.row_len-links.ensures.len) c.self.invariant).1
