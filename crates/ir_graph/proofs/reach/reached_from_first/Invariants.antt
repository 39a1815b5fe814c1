use Rattle.std.proofs.Common.{◌≡◌, ◌<◌, ℕ, length, Some, slice_get}
use Rattle.ir_graph.specs.View.{rows_view}
use Rattle.ir_model.specs.Places.{neighbors_at}
use Rattle.ir_graph.specs.Reached.{AreReached, HasNeighbors, HasPlace}
use Rattle.ir_graph.proofs.reach.reached_from_first.Given as goal

-- the first places that were reached have their neighbours among those that were reached
abbrev pub invariant-loop-turn : goal.invariant-loop-turn
invariant-loop-turn l = record {
  reached : AreReached (rows_view l.rows) l.reached.keys;
  closed : (k i : ℕ) → k < l.turn → slice_get l.reached.keys k ≡ Some i → HasNeighbors (rows_view l.rows) l.reached.keys i (length (neighbors_at (rows_view l.rows) i));
  first : HasPlace l.reached.keys 0;
  end : l.turn-end ≡ length (rows_view l.rows);
}
