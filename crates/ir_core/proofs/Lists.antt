use Rattle.std.proofs.Common.{◌≡◌, ◌≢◌, ℕ, zero, suc, ◌<◌, List, [], ◌∷◌, ◌++◌, length, drop, set, slice_get, slice_index_or, Some, refl, ap, ◌∙◌, arith, ◌⊎◌, inl, inr}
use Rattle.std.proofs.lemmas.Option.{same_Some, none-some}
use Rattle.std.proofs.lemmas.List.{get_or-set_same, get_or-set_other}
use Rattle.std.proofs.lemmas.Bool.{cases_eq}

-- what is at a place after a write
pub get_set : {X : Type 0} (xs : List X) (i j : ℕ) (y x : X) → slice_get (set xs i y) j ≡ Some x → ((j ≡ i) × (y ≡ x)) ⊎ ((j ≢ i) × (slice_get xs j ≡ Some x))
get_set [] i j y x e = absurd (none-some x e)
get_set (a ∷ xs) zero zero y x e = inl (refl, same_Some y x e)
get_set (a ∷ xs) zero (suc j) y x e = inr (omega arith, e)
get_set (a ∷ xs) (suc i) zero y x e = inr (omega arith, e)
get_set {X} (a ∷ xs) (suc i) (suc j) y x e = stepped (get_set xs i j y x e)
  where
    stepped : ((j ≡ i) × (y ≡ x)) ⊎ ((j ≢ i) × (slice_get xs j ≡ Some x)) → ((suc j ≡ suc i) × (y ≡ x)) ⊎ ((suc j ≢ suc i) × (slice_get xs j ≡ Some x))
    stepped (inl p) = inl (ap suc p.0, p.1)
    stepped (inr p) = let ne = p.0 in inr (omega arith, p.1)

pub get_set_same : {X : Type 0} (xs : List X) (i : ℕ) (y : X) → i < length xs → slice_get (set xs i y) i ≡ Some y
get_set_same [] i y h = absurd (omega arith)
get_set_same (a ∷ xs) zero y h = refl
get_set_same (a ∷ xs) (suc i) y h = get_set_same xs i y (omega arith)

pub get_set_other : {X : Type 0} (xs : List X) (i j : ℕ) (y : X) → j ≢ i → slice_get (set xs i y) j ≡ slice_get xs j
get_set_other [] i j y h = refl
get_set_other (a ∷ xs) zero zero y h = absurd (h refl)
get_set_other (a ∷ xs) zero (suc j) y h = refl
get_set_other (a ∷ xs) (suc i) zero y h = refl
get_set_other (a ∷ xs) (suc i) (suc j) y h = get_set_other xs i j y (λ e. h (ap suc e))

-- what is at a place after a push
pub get_push : {X : Type 0} (xs : List X) (j : ℕ) (y x : X) → slice_get (xs ++ y ∷ []) j ≡ Some x → ((j ≡ length xs) × (y ≡ x)) ⊎ ((j < length xs) × (slice_get xs j ≡ Some x))
get_push [] zero y x e = inl (refl, same_Some y x e)
get_push [] (suc j) y x e = absurd (none-some x e)
get_push (a ∷ xs) zero y x e = inr (omega arith, e)
get_push {X} (a ∷ xs) (suc j) y x e = stepped (get_push xs j y x e)
  where
    stepped : ((j ≡ length xs) × (y ≡ x)) ⊎ ((j < length xs) × (slice_get xs j ≡ Some x)) → ((suc j ≡ suc (length xs)) × (y ≡ x)) ⊎ ((suc j < suc (length xs)) × (slice_get xs j ≡ Some x))
    stepped (inl p) = inl (ap suc p.0, p.1)
    stepped (inr p) = let lt = p.0 in inr (omega arith, p.1)

pub get_push_here : {X : Type 0} (xs : List X) (y : X) → slice_get (xs ++ y ∷ []) (length xs) ≡ Some y
get_push_here [] y = refl
get_push_here (a ∷ xs) y = get_push_here xs y

pub get_push_before : {X : Type 0} (xs : List X) (j : ℕ) (y : X) → j < length xs → slice_get (xs ++ y ∷ []) j ≡ slice_get xs j
get_push_before [] j y h = absurd (omega arith)
get_push_before (a ∷ xs) zero y h = refl
get_push_before (a ∷ xs) (suc j) y h = get_push_before xs j y (omega arith)

pub get_drop_one : {X : Type 0} (xs : List X) (j : ℕ) → slice_get (drop 1 xs) j ≡ slice_get xs (suc j)
get_drop_one [] j = refl
get_drop_one (a ∷ xs) j = refl

-- an element with a default, after a write
pub or_set : {X : Type 0} (xs : List X) (i j : ℕ) (y d : X) → i < length xs → ((j ≡ i) × (slice_index_or (set xs i y) j d ≡ y)) ⊎ ((j ≢ i) × (slice_index_or (set xs i y) j d ≡ slice_index_or xs j d))
or_set {X} xs i j y d h = chosen (cases_eq j i)
  where
    chosen : ((j ≡ i) ⊎ (j ≡ i → ⊥)) → ((j ≡ i) × (slice_index_or (set xs i y) j d ≡ y)) ⊎ ((j ≢ i) × (slice_index_or (set xs i y) j d ≡ slice_index_or xs j d))
    chosen (inl e) = inl (e, ap (λ (k : ℕ). slice_index_or (set xs i y) k d) e ∙ get_or-set_same xs i y d h)
    chosen (inr ne) = inr (ne, get_or-set_other xs i j y d ne)
