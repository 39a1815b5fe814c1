use Rattle.std.proofs.Common.{◌≡◌, ◌∙◌, ℕ, sym, ap, subst, Some, nat_eq}
use Rattle.std.specs.List.{IsDistinct}
use Rattle.std.proofs.lemmas.Option.{none-some, same_Some}
use Rattle.ir_graph.specs.View.{rows_view}
use Rattle.ir_model.specs.Places.{neighbor_at}
use Rattle.ir_graph.specs.Reached.{HasPlace, AreReached, HasMoreBehind}
use Rattle.ir_graph.proofs.Reaching.{IsPut, goes_on_put, has_put, kept_place, reached_put, neighbors_more, goes_on_none}
use Rattle.ir_graph.proofs.reach.reach_neighbors.Goals as goal
use Rattle.ir_graph.proofs.reach.reach_neighbors.Goals.{in-Some+in-Ok, in_default}

pub loop-place-preserved : goal.loop-place-preserved
loop-place-preserved c =
    let g = rows_view c.args.rows.now in
    let before = c.loop-place.reached.keys in
    let after = c.match-neighbor_at.reached.keys in
    elim c.match-neighbor_at.branch [
      | in-Some+in-Ok w ↦
          (let keys : after ≡ w.insert.new.self.keys = ap (λ s. s.keys) w.reached-is in
          let put : IsPut before w.in-Some.neighbor after = keys ∙ w.in-Ok.ensures.keys in
          let on = goes_on_put before before after w.in-Some.neighbor (goes_on_none before) put in
          let there : HasPlace before c.args.node = kept_place c.args.reached.now.keys before c.loop-place.invariant.kept c.args.node c.requires.there in
          let link : neighbor_at g c.args.node c.loop-place.place ≡ Some (w.in-Some.neighbor, w.in-Some.field-0-1) = sym w.in-Some.ensures.at in
          record {
            after = reached_put g c.requires.graph before after c.args.node c.loop-place.place w.in-Some.neighbor w.in-Some.field-0-1 c.loop-place.invariant.after there link put (subst (IsDistinct nat_eq) (sym keys) w.in-Ok.ensures.unique);
            kept = goes_on_put c.args.reached.now.keys before after w.in-Some.neighbor c.loop-place.invariant.kept put;
            all = neighbors_more g c.requires.graph before after c.args.node c.loop-place.place on c.loop-place.invariant.all
                (λ j v e. subst (HasPlace after) (ap (λ (t : ℕ × ℕ). t.0) (same_Some _ _ (w.in-Some.ensures.at ∙ e))) (has_put before after w.in-Some.neighbor put));
            end = c.loop-place.invariant.end;
          })
      | in_default w ↦
          (let keys : after ≡ before = ap (λ s. s.keys) w.reached-is in
          let on : HasMoreBehind before after = subst (HasMoreBehind before) (sym keys) (goes_on_none before) in
          record {
            after = subst (AreReached g) (sym keys) c.loop-place.invariant.after;
            kept = subst (HasMoreBehind c.args.reached.now.keys) (sym keys) c.loop-place.invariant.kept;
            all = neighbors_more g c.requires.graph before after c.args.node c.loop-place.place on c.loop-place.invariant.all (λ j v e. absurd (none-some _ (w.in_default.ensures.at ∙ e)));
            end = c.loop-place.invariant.end;
          })
    ]
