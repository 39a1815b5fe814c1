use Rattle.std.proofs.Common.{◌≡◌, ◌+◌, ◌-◌, ◌∙◌, ◌∷◌, ℕ, [], List, length, min, ap, sym, subst, inl, inr, arith}
use Rattle.std.specs.Prelude.{slice_index}
use Rattle.std.proofs.lemmas.Bool.{cases_lt}
use Rattle.std.proofs.lemmas.List.{get_or_append_left, get_or_push, length_push}
use Rattle.ir_figures.proofs.far.sixteen_from.Goals as goal

pub loop-k-init : goal.loop-k-init
loop-k-init c = record {
  long = ap (λ (xs : List ℕ). length xs) c.in_ok-sixteen.ensures.items;
  each = λ k h. absurd (omega (arith, h));
}

pub loop-k-preserved : goal.loop-k-preserved
loop-k-preserved c =
    let old = c.loop-k.sixteen.items in
    let number = c.min.result in
    let i = c.loop-k.invariant in
    let long = i.long in
    let added = c.in_ok-push.ensures.items in
    let more = ap (λ (xs : List ℕ). length xs) added in
    let one = length_push old number in
    record {
      long = omega (arith, more, one, long);
      each = λ k h.
          subst (λ (xs : List ℕ). slice_index xs k ≡ min (c.args.first + k) (c.args.nodes - 1)) (sym added)
          (elim (cases_lt k (length old)) [
            | inl l ↦ get_or_append_left old (number ∷ []) 0 k l ∙ i.each k (omega (arith, l, long))
            | inr g ↦
                let last : k ≡ length old = omega (arith, h, g, long) in
                get_or_push old number 0 k (sym last) ∙ c.min.ensures ∙ ap (λ (n : ℕ). min (c.args.first + n) (c.args.nodes - 1)) (sym (last ∙ long))
          ]);
    }

pub returns : goal.returns
returns c =
    let i = c.loop-k.invariant in
    let end = c.loop-k-test.false in
    let most = c.loop-k.auto.k-end in
    let last : c.loop-k.k ≡ 16 = omega (arith, end, most) in
    record { sixteen = i.long ∙ last; each = λ k h. i.each k (omega (arith, h, end)) }
