use Rattle.std.proofs.Common.{◌≡◌, length}
use Rattle.ir_graph.specs.View.{rows_view}
use Rattle.ir_model.specs.Places.{neighbors_at}
use Rattle.ir_graph.specs.Reached.{AreReached, HasNeighbors, HasMoreBehind}
use Rattle.ir_graph.proofs.reach.reach_neighbors.Given as goal

-- the neighbours so far were added
abbrev pub invariant-loop-place : goal.invariant-loop-place
invariant-loop-place l = record {
  after : AreReached (rows_view l.rows) l.reached.keys;
  kept : HasMoreBehind l.initial.reached.keys l.reached.keys;
  all : HasNeighbors (rows_view l.rows) l.reached.keys l.node l.place;
  end : l.place-end ≡ length (neighbors_at (rows_view l.rows) l.node);
}
