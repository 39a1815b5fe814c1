-- What holds at each place of a list that grows.
use Rattle.std.proofs.Common.{◌≡◌, ℕ, ◌+◌, ◌<◌, List, [], ◌∷◌, ◌++◌, length, get_or, sym, subst, inl, inr, arith}
use Rattle.std.proofs.lemmas.Bool.{cases_eq}
use Rattle.std.proofs.lemmas.List.{get_or_push, get_or_append_left}

pub each_push : {X : Type 0} (P : ℕ → X → Type 0) (xs : List X) (y d : X) (n : ℕ) → length xs ≡ n → ((k : ℕ) → k < n → P k (get_or xs k d)) → P n y
    → (k : ℕ) → k < n + 1 → P k (get_or (xs ++ y ∷ []) k d)
each_push P xs y d n len each last k h =
    elim (cases_eq k n) [
      | inl e ↦ rw (get_or_push xs y d k (omega arith)) (subst (λ (i : ℕ). P i y) (sym e) last)
      | inr ne ↦ rw (get_or_append_left xs (y ∷ []) d k (omega arith)) (each k (omega arith))
    ]
