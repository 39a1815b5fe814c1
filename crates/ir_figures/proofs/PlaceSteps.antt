-- The place of a label among ascending ones, as the label grows.
use Rattle.std.proofs.Common.{◌≡◌, ◌⊎◌, ℕ, ◌+◌, ◌-◌, ◌<◌, ◌≤◌, List, length, slice_index, ap, ◌∙◌, inl, inr, arith}
use Rattle.std.specs.List.{AllPairs}
use Rattle.std.proofs.lemmas.List.Kept.{AllPairs-from_increasing}
use Rattle.std.proofs.lemmas.Bool.{cases_lt, cases_eq}
use Rattle.std.specs.List.Sorted.{IsStrictlyIncreasing}
use Rattle.ir_model.specs.Row.{IsPlaceOf}

-- two numbers that differ
not_same : (a b : ℕ) → (a ≡ b → ⊥) → (a < b) ⊎ (b < a)
not_same a b differ = elim (cases_lt a b) [
  | inl l ↦ inl l
  | inr g ↦ elim (cases_eq a b) [ inl e ↦ absurd (differ e) | inr ne ↦ inr (omega (arith, g, ne)) ]
]

pub place_first : (xs : List ℕ) → IsStrictlyIncreasing xs → 0 < length xs → (k : ℕ) → ((1 < length xs) × (0 < slice_index xs 0) × (k + 1 ≡ length xs)) ⊎ (((length xs ≤ 1) ⊎ (slice_index xs 0 ≡ 0)) × (k ≡ 0))
    → IsPlaceOf xs 0 k
place_first xs up some k (inl last) = record {
  below = omega (arith, last.2);
  from = inr (last.1, last.2);
  to = λ more. absurd (omega (arith, more, last.2));
}
place_first xs up some k (inr (inl one, e)) = record {
  below = omega (arith, some, e);
  from = elim (cases_lt 0 (slice_index xs 0)) [
    | inl above ↦ inr (above, omega (arith, one, some, e))
    | inr at ↦ inl (omega (arith, ap (slice_index xs) e, at))
  ];
  to = λ more. absurd (omega (arith, more, one, e));
}
place_first xs up some k (inr (inr at, e)) = record {
  below = omega (arith, some, e);
  from = inl (omega (arith, ap (slice_index xs) e, at));
  to = λ more.
      let rises = AllPairs-from_increasing xs up 0 (k + 1) 0 (omega arith) more in
      omega (arith, rises);
}

pub place_next : (xs : List ℕ) → IsStrictlyIncreasing xs → (a k next : ℕ) → IsPlaceOf xs a k → ((k + 1 < length xs) × (next ≡ k + 1)) ⊎ ((length xs ≤ k + 1) × (next ≡ 0))
    → ((slice_index xs next ≡ a + 1) → IsPlaceOf xs (a + 1) next) × ((slice_index xs next ≡ a + 1 → ⊥) → IsPlaceOf xs (a + 1) k)
place_next xs up a k next place (inl (more, e)) = (
  λ at. record {
    below = omega (arith, more, e);
    from = inl (omega (arith, at));
    to = λ further.
        let rises = AllPairs-from_increasing xs up next (next + 1) 0 (omega arith) further in
        omega (arith, rises, at);
  },
  λ other.
      let above : a + 1 < slice_index xs (k + 1) = omega (arith, place.to more, not_same (slice_index xs (k + 1)) (a + 1) (λ same. other (ap (slice_index xs) e ∙ same))) in
      record {
        below = place.below;
        from = elim place.from [ inl l ↦ inl (omega (arith, l)) | inr r ↦ absurd (omega (arith, r.1, more)) ];
        to = λ further. above;
      },
)
place_next xs up a k next place (inr (last, e)) = (
  λ at. record {
    below = omega (arith, place.below, e);
    from = inl (omega (arith, at));
    to = λ further.
        let rises = AllPairs-from_increasing xs up next (next + 1) 0 (omega arith) further in
        omega (arith, rises, at);
  },
  λ other. record {
    below = place.below;
    from = elim place.from [
      | inl l ↦ inl (omega (arith, l))
      | inr r ↦ inr (omega (arith, r.0, not_same (slice_index xs 0) (a + 1) (λ same. other (ap (slice_index xs) e ∙ same))), r.1)
    ];
    to = λ further. absurd (omega (arith, further, last));
  },
)
