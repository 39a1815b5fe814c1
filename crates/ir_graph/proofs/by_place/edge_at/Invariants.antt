use Rattle.std.proofs.Common.{◌≡◌, length, take, drop, slice_get}
use Rattle.ir_model.specs.Graph.{names, edges, edges_after}
use Rattle.ir_graph.specs.View.{rows_view}
use Rattle.ir_graph.proofs.by_place.edge_at.Given as goal

-- the edge is the one at the place left, of those from this node on
abbrev pub invariant-loop-node : goal.invariant-loop-node
invariant-loop-node l = record {
  same : slice_get (edges (rows_view l.rows)) l.place ≡ slice_get (edges_after (take l.node (names (rows_view l.rows))) (drop l.node (rows_view l.rows))) l.left;
  end : l.node-end ≡ length (rows_view l.rows);
}
