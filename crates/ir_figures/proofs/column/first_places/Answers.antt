use Rattle.std.proofs.Common.{◌≡◌, ◌<◌, ℕ, List, length, slice_index, subst, sym, ap, ◌∙◌, inl, inr, arith}
use Rattle.std.proofs.lemmas.Bool.{cases_eq}
use Rattle.std.proofs.lemmas.List.{get_or_push, get_or_append_left}
use Rattle.ir_model.specs.Row.{Start, labels, IsPlaceOf}
use Rattle.ir_model.specs.Topology.{node_count}
use Rattle.ir_model.specs.Plan.{row_in}
use Rattle.ir_model.proofs.Canonical.{not_empty}
use Rattle.ir_plan.proofs.Standing.{row_destinations}
use Rattle.ir_figures.proofs.column.first_places.Goals as goal

pub loop-u-preserved : goal.loop-u-preserved
loop-u-preserved c =
    let s = c.args.plan.now in
    let is = c.invariant.ensures.plan in
    let old = c.loop-u.places.items in
    let u = c.loop-u.u in
    let place = c.first_place.result in
    let every = c.loop-u.invariant.every in
    let len : length old ≡ u = omega (arith, every, c.loop-u.places.ok) in
    let u_in : u < node_count s.topology = omega (arith, c.loop-u-test.true, c.nodes-u-end.ensures.count) in
    let row : c.row.result.now ≡ row_in s u = c.row.ensures.row in
    let new : (w : ℕ) → w ≡ u → slice_index c.push.new.self.items w ≡ place = λ w e. ap (λ (xs : List ℕ). slice_index xs w) c.in_ok-push.ensures.items ∙ get_or_push old place 0 w (len ∙ sym e) in
    let kept : (w : ℕ) → w < u → slice_index c.push.new.self.items w ≡ slice_index old w = λ w lt. ap (λ (xs : List ℕ). slice_index xs w) c.in_ok-push.ensures.items ∙ get_or_append_left old _ 0 w (omega (arith, lt, len)) in
    record {
      every = omega (arith, c.in_ok-push.ensures.len, every);
      within = λ w lt. elim (cases_eq w u) [
        | inl e ↦ omega (arith, new w e, c.first_place.ensures.within, ap length row, ap (λ (x : ℕ). length (row_in s x)) e)
        | inr ne ↦ omega (arith, kept w (omega (arith, lt, ne)), c.loop-u.invariant.within w (omega (arith, lt, ne)))
      ];
      each = λ w lt two. elim (cases_eq w u) [
        | inl e ↦
            let some = not_empty _ _ _ (row_destinations s is u u_in) (row_in s u) (is.rows u u_in) two in
            let at : IsPlaceOf (labels (row_in s u)) 0 place = subst (λ (r : List Start). IsPlaceOf (labels r) 0 place) row (c.first_place.ensures.place (omega (arith, some, ap length row))) in
            subst (λ (x : ℕ). IsPlaceOf (labels (row_in s w)) 0 x) (sym (new w e)) (subst (λ (x : ℕ). IsPlaceOf (labels (row_in s x)) 0 place) (sym e) at)
        | inr ne ↦ subst (λ (x : ℕ). IsPlaceOf (labels (row_in s w)) 0 x) (sym (kept w (omega (arith, lt, ne)))) (c.loop-u.invariant.each w (omega (arith, lt, ne)) two)
      ];
    }
