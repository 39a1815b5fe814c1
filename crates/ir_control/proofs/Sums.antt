-- Sums of terms that are all 0.
use Rattle.std.specs.Prelude.{◌≡◌, ℕ, ◌<◌, suc, List, [], ◌∷◌, length, sum_by}
use Rattle.std.proofs.Common.{get_or, refl, arith}
use Rattle.std.proofs.lemmas.List.Sums.{sum_by-cons}

pub sum_of_none : {X : Type 0} (f : X → ℕ) (xs : List X) (d : X) → ((k : ℕ) → k < length xs → f (get_or xs k d) ≡ 0) → sum_by f xs ≡ 0
sum_of_none f [] d h = refl
sum_of_none f (x ∷ xs) d h =
    let first : f x ≡ 0 = h 0 (omega arith) in
    let rest : sum_by f xs ≡ 0 = sum_of_none f xs d (λ k lt. h (suc k) (omega arith)) in
    omega (arith, sum_by-cons f x xs, first, rest)
