use Rattle.std.proofs.Common.{◌≡◌, ◌≢◌, ◌+◌, ◌-◌, ℕ, List, suc, refl, ap, sym, subst, ◌∙◌, arith, slice_index}
use Rattle.ir_model.specs.Choices.{label_from}
use Rattle.ir_model.proofs.Steps.{next_place, next_off}
use Rattle.ir_compile.specs.Rounds.{Reaches}
use Rattle.ir_compile.proofs.round.round_from.Goals as goal

pub loop-place-preserved : goal.loop-place-preserved
loop-place-preserved c =
    let n : ℕ = c.args.n in
    let counts : List ℕ = c.args.counts.now in
    let s : ℕ = c.args.start in
    let place : ℕ = c.loop-place.place in
    let v = c.loop-place.invariant in
    let test = c.loop-place-test.true in
    let a : ℕ = c.label_at.result in
    let here : a ≡ label_from n s place = c.label_at.ensures.from in
    let off = v.off test in
    let ne : a ≢ c.args.own = λ e. off (sym here ∙ e) in
    let some = c.requires.steps.some a c.label_at.ensures.label ne in
    let within = c.requires.steps.within a c.label_at.ensures.label ne in
    let few = v.few in
    let next : next_place n counts s place ≡ place + slice_index counts a = ap (λ (x : ℕ). place + slice_index counts x) (sym here) in
    record {
      inside = omega (arith, within, test);
      few = omega (arith, some, few);
      off = λ l. subst (λ (x : ℕ). label_from n s x ≢ c.args.own) next (next_off n c.args.own counts c.requires.steps s c.requires.start place off (omega (arith, next, l)));
      rest = λ k e go.
          let is : c.loop-place.steps + suc k ≡ c.loop-place.steps + 1 + k = omega arith in
          subst (λ (x : ℕ). Reaches n counts s 0 x e) is (v.rest (suc k) e (test, subst (λ (x : ℕ). Reaches n counts s x k e) (sym next) go));
    }

pub returns : goal.returns
returns c =
    let n : ℕ = c.args.n in
    let place : ℕ = c.loop-place.place in
    let steps : ℕ = c.loop-place.steps in
    let all : steps + 0 ≡ steps = omega arith in
    let is : place ≡ n + (place - n) = omega (arith, c.loop-place-test.false) in
    subst (λ (x : ℕ). Reaches n c.args.counts.now c.args.start 0 steps x) is
    (subst (λ (x : ℕ). Reaches n c.args.counts.now c.args.start 0 x place) all (c.loop-place.invariant.rest 0 place refl))
