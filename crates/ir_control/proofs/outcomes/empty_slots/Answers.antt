use Rattle.std.specs.Prelude.{◌≡◌, ℕ, zero, suc, ◌+◌, List, [], ◌∷◌, ◌++◌, Option, None, length, slice_index_or}
use Rattle.std.proofs.Common.{arith, refl, ap, ◌∙◌}
use Rattle.std.proofs.lemmas.List.{length_push}
use Rattle.ir_control.proofs.outcomes.empty_slots.Goals as goal

-- one empty slot more
none_more : {T : Type 0} (slots : List (Option T)) → ((k : ℕ) → slice_index_or slots k None ≡ None) → (k : ℕ) → slice_index_or (slots ++ None ∷ []) k None ≡ None
none_more [] had zero = refl
none_more [] had (suc k) = refl
none_more (x ∷ slots) had zero = had zero
none_more (x ∷ slots) had (suc k) = none_more slots (λ j. had (suc j)) k

pub loop-slot-init : goal.loop-slot-init
loop-slot-init g c =
    let e = c.in_ok-slots.ensures.items in
    (ap length e, λ k. ap (λ xs. slice_index_or xs k None) e)

pub loop-slot-preserved : goal.loop-slot-preserved
loop-slot-preserved g c =
    let e = c.in_ok-push.ensures.items in
    let had = c.loop-slot.invariant in (
      ap length e ∙ length_push c.loop-slot.slots.items None ∙ ap (λ (k : ℕ). k + 1) had.0,
      λ k. ap (λ xs. slice_index_or xs k None) e ∙ none_more c.loop-slot.slots.items had.1 k,
    )

pub returns : goal.returns
returns g c =
    let had = c.loop-slot.invariant in
    let n = had.0 in
    let least = c.loop-slot-test.false in
    let most = c.loop-slot.auto._slot-end in
    (omega (arith, n, least, most), had.1)
