use Rattle.std.proofs.Common.{◌≡◌, ◌+◌, length, take, filter, not}
use Rattle.ir_model.specs.Graph.{names, among}
use Rattle.ir_graph.specs.View.{rows_view}
use Rattle.ir_model.specs.Places.{neighbors_at}
use Rattle.ir_graph.proofs.by_place.later_edge.Given as goal

-- the edges so far and the places left are the place
abbrev pub invariant-loop-i : goal.invariant-loop-i
invariant-loop-i l = record {
  counted : l.left + length (filter (λ e. not (among (take l.node (names (rows_view l.rows))) e.0)) (take l.i (neighbors_at (rows_view l.rows) l.node))) ≡ l.place;
  end : l.i-end ≡ length (neighbors_at (rows_view l.rows) l.node);
}
