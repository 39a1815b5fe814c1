use Rattle.std.proofs.Common.{◌≡◌, ℕ, sym, subst, inl, inr, arith}
use Rattle.std.specs.Prelude.{slice_index}
use Rattle.std.proofs.lemmas.Bool.{cases_eq, iff_false}
use Rattle.ir_plan.specs.Tour.{IsNoFarther}
use Rattle.ir_plan.proofs.Tours.{no_farther_other, no_farther_by, no_farther_self}
use Rattle.ir_plan.proofs.nearest.nearest.Goals as goal
use Rattle.ir_plan.proofs.nearest.nearest.Goals.{then-not-is_no_farther, else-not-is_no_farther}

pub loop-place-init : goal.loop-place-init
loop-place-init c = record {
  behind = omega arith;
  inside = c.requires.inside;
  nearest = λ j from upto. no_farther_self (slice_index c.args.distances.now) _ _ (let same : c.args.from ≡ j = omega arith in cc same);
}

pub loop-place-preserved : goal.loop-place-preserved
loop-place-preserved c =
    let far = slice_index c.args.distances.now in
    let at = slice_index c.args.order.now in
    let old = c.loop-place.best in
    let place = c.loop-place.place in
    elim c.if-not-is_no_farther.branch [
      | then-not-is_no_farther w ↦
          let nearer = no_farther_other far (at old) (at place) (iff_false c.is_no_farther.ensures w.if-not-is_no_farther.true) in
          record {
            behind = omega (arith, w.best-is);
            inside = omega (arith, w.best-is);
            nearest = λ j from upto.
                rw w.best-is
                (elim (cases_eq j place) [
                  | inl e ↦ no_farther_self far (at place) (at j) (cc (sym e))
                  | inr ne ↦ no_farther_by far (at place) (at old) (at j) nearer (c.loop-place.invariant.nearest j from (omega arith))
                ]);
          }
      | else-not-is_no_farther w ↦
          record {
            behind = omega (arith, w.best-is);
            inside = omega (arith, w.best-is);
            nearest = λ j from upto.
                rw w.best-is
                (elim (cases_eq j place) [
                  | inl e ↦ subst (λ (k : ℕ). IsNoFarther far (at old) (at k)) (sym e) (c.is_no_farther.ensures.0 w.if-not-is_no_farther.false)
                  | inr ne ↦ c.loop-place.invariant.nearest j from (omega arith)
                ]);
          }
    ]

pub returns : goal.returns
returns c = record {
  behind = c.loop-place.invariant.behind;
  inside = c.loop-place.invariant.inside;
  nearest = λ j from upto. c.loop-place.invariant.nearest j from (omega (arith, upto));
}
