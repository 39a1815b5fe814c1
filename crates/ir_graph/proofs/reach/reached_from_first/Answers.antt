use Rattle.std.proofs.Common.{◌≡◌, ◌+◌, ◌∙◌, sym, ap, subst, nat_eq, arith, [], ◌∷◌, length, slice_get}
use Rattle.std.proofs.lemmas.Result.{err_from_is_err_and}
use Rattle.indexmap.specs.IndexSet.{insert_key}
use Rattle.ir_graph.specs.View.{rows_view}
use Rattle.ir_graph.specs.Reached.{HasPlace, HasNeighbors, AreReached, HasMoreBehind}
use Rattle.ir_model.specs.Places.{neighbors_at}
use Rattle.ir_graph.proofs.Views.{length-rows_view}
use Rattle.ir_graph.proofs.Reaching.{ClosedBefore, place_there, kept_place, reached_first, closed_more, closed_past, closed_all}
use Rattle.ir_graph.proofs.reach.reached_from_first.Goals as goal
use Rattle.ir_graph.proofs.reach.reached_from_first.Goals.{in-Some+in_ok-reach_neighbors, in_default-get_index}

pub loop-turn-init : goal.loop-turn-init
loop-turn-init c =
    let only : c.insert.new.self.keys ≡ 0 ∷ [] = c.in-Ok.ensures.keys ∙ ap (λ ks. insert_key nat_eq ks 0) c.new-reached.ensures.empty in
    record {
      reached = reached_first (rows_view c.args.rows.now) c.requires.graph c.insert.new.self.keys c.requires.some only c.in-Ok.ensures.unique;
      closed = λ k i h e. absurd (omega (arith, h));
      first = place_there c.insert.new.self.keys 0 0 (ap (λ ks. slice_get ks 0) only);
      end = c.len-turn-end.ensures.len ∙ sym (length-rows_view c.args.rows.now);
    }

pub reach_neighbors-requires-clause-there : goal.reach_neighbors-requires-clause-there
reach_neighbors-requires-clause-there c = place_there c.loop-turn.reached.keys c.loop-turn.turn c.in-Some.node.now (sym c.in-Some.ensures.key)

pub loop-turn-preserved : goal.loop-turn-preserved
loop-turn-preserved c =
    let g = rows_view c.args.rows.now in
    let before = c.loop-turn.reached.keys in
    let after = c.match-get_index.reached.keys in
    elim c.match-get_index.branch [
      | in-Some+in_ok-reach_neighbors w ↦
          (let keys : after ≡ w.reach_neighbors.new.reached.keys = ap (λ s. s.keys) w.reached-is in
          let on : HasMoreBehind before after = subst (HasMoreBehind before) (sym keys) w.in_ok-reach_neighbors.ensures.kept in
          record {
            reached = subst (AreReached g) (sym keys) w.in_ok-reach_neighbors.ensures.after;
            closed = closed_more g c.requires.graph before after c.loop-turn.turn w.in-Some.node.now on c.loop-turn.invariant.closed (sym w.in-Some.ensures.key)
                (subst (λ ks. HasNeighbors g ks w.in-Some.node.now (length (neighbors_at g w.in-Some.node.now))) (sym keys) w.in_ok-reach_neighbors.ensures.all);
            first = kept_place before after on 0 c.loop-turn.invariant.first;
            end = c.loop-turn.invariant.end;
          })
      | in_default-get_index w ↦
          (let keys : after ≡ before = ap (λ s. s.keys) w.reached-is in
          record {
            reached = subst (AreReached g) (sym keys) c.loop-turn.invariant.reached;
            closed = subst (λ ks. ClosedBefore g c.requires.graph ks (c.loop-turn.turn + 1)) (sym keys) (closed_past g c.requires.graph before c.loop-turn.turn c.loop-turn.invariant.closed (sym w.in_default-get_index.ensures.key));
            first = subst (λ ks. HasPlace ks 0) (sym keys) c.loop-turn.invariant.first;
            end = c.loop-turn.invariant.end;
          })
    ]

pub returns-clause-closed : goal.returns-clause-closed
returns-clause-closed c =
    let g = rows_view c.args.rows.now in
    let full : c.loop-turn.turn ≡ length g = omega arith in
    closed_all g c.requires.graph c.loop-turn.reached.keys c.loop-turn.invariant.reached (subst (ClosedBefore g c.requires.graph c.loop-turn.reached.keys) full c.loop-turn.invariant.closed)

pub reach_neighbors-requires-clause-graph : goal.reach_neighbors-requires-clause-graph
reach_neighbors-requires-clause-graph c = c.requires.graph

pub reach_neighbors-requires-clause-before : goal.reach_neighbors-requires-clause-before
reach_neighbors-requires-clause-before c = c.loop-turn.invariant.reached

pub returns-clause-reached : goal.returns-clause-reached
returns-clause-reached c = c.loop-turn.invariant.reached

pub returns-clause-first : goal.returns-clause-first
returns-clause-first c = c.loop-turn.invariant.first

pub returns-in_default : goal.returns-in_default
returns-in_default c = record { reached = tt; closed = tt; first = tt }

pub returns-in_err-reach_neighbors : goal.returns-in_err-reach_neighbors
returns-in_err-reach_neighbors c =
    let is = (err_from_is_err_and c.from_residual.result c.from_residual.ensures.1).1 in
    record { reached = rw is tt; closed = rw is tt; first = rw is tt }
