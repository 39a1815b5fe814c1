-- What can be decided of each number can be sought among numbers.
use Rattle.std.proofs.Common.{◌≡◌, ℕ, zero, suc, ◌<◌, ◌≤◌, ◌⊎◌, List, [], ◌∷◌, ◌++◌, length, Option, Some, None, refl, sym, subst, inl, inr, arith}
use Rattle.std.specs.Prelude.{slice_index_or}
use Rattle.std.proofs.lemmas.Bool.{cases_eq, cases_lt}
use Rattle.std.proofs.lemmas.List.{get_or_push, get_or_append_left, length_push}

-- it holds or it does not
abbrev pub IsDecided : Type 0 → Type 0
IsDecided P = P ⊎ (P → ⊥)

-- an option holds something or nothing
pub option_is : {A : Type 0} → (o : Option A) → ((x : A) × (o ≡ Some x)) ⊎ (o ≡ None)
option_is None = inr refl
option_is (Some x) = inl (x, refl)

module _ (P : ℕ → Type 0) where
  -- the least number below n of which P holds, if there is one
  first_below : ((q : ℕ) → IsDecided (P q)) → (n : ℕ) → ((m : ℕ) × P m × ((q : ℕ) → P q → m ≤ q)) ⊎ ((q : ℕ) → q < n → P q → ⊥)
  first_below decide zero = inr (λ q lt is. omega (arith, lt))
  first_below decide (suc n) =
      elim (first_below decide n) [
        | inl found ↦ inl found
        | inr none ↦
            elim (decide n) [
              | inl is ↦ inl (n, is, λ q holds. least none q holds)
              | inr not ↦ inr (λ q lt holds. elim (cases_eq q n) [ inl e ↦ not (subst P e holds) | inr ne ↦ none q (omega (arith, lt, ne)) holds ])
            ]
      ]
    where
      least : ((q : ℕ) → q < n → P q → ⊥) → (q : ℕ) → P q → n ≤ q
      least none q holds = elim (cases_lt q n) [ inl lt ↦ absurd (none q lt holds) | inr ge ↦ ge ]

  -- the least number of which P holds
  pub least_of : ((q : ℕ) → IsDecided (P q)) → (p : ℕ) → P p → (m : ℕ) × P m × ((q : ℕ) → P q → m ≤ q)
  least_of decide p is = elim (first_below decide (suc p)) [ inl found ↦ found | inr none ↦ absurd (none p (omega arith) is) ]

  -- whether P holds of a number below n
  pub any_below : ((q : ℕ) → IsDecided (P q)) → (n : ℕ) → IsDecided ((q : ℕ) × (q < n) × P q)
  any_below decide zero = inr (λ found. omega (arith, found.1))
  any_below decide (suc n) =
      elim (any_below decide n) [
        | inl found ↦ inl (found.0, omega (arith, found.1), found.2)
        | inr none ↦
            elim (decide n) [
              | inl is ↦ inl (n, omega arith, is)
              | inr not ↦ inr (λ found. elim (cases_eq found.0 n) [ inl e ↦ not (subst P e found.2) | inr ne ↦ none (found.0, omega (arith, found.1, ne), found.2) ])
            ]
      ]

-- a list of what there is for each number below n
pub chosen_list : {A : Type 0} → (default : A) (P : ℕ → A → Type 0) (n : ℕ) → ((k : ℕ) → k < n → (x : A) × P k x)
    → (xs : List A) × (length xs ≡ n) × ((k : ℕ) → k < n → P k (slice_index_or xs k default))
chosen_list default P zero each = ([], refl, λ k lt. absurd (omega (arith, lt)))
chosen_list default P (suc n) each =
    let before = chosen_list default P n (λ k lt. each k (omega (arith, lt))) in
    let xs = before.0 in
    let new = each n (omega arith) in
    let len = length_push xs new.0 in (
      xs ++ new.0 ∷ [],
      omega (arith, len, before.1),
      λ k lt. elim (cases_eq k n) [
        | inl e ↦ rw (get_or_push xs new.0 default k (omega (arith, before.1, e))) (subst (λ (j : ℕ). P j new.0) (sym e) new.1)
        | inr ne ↦ rw (get_or_append_left xs (new.0 ∷ []) default k (omega (arith, before.1, lt, ne))) (before.2 k (omega (arith, lt, ne)))
      ],
    )
