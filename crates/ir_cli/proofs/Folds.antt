-- A fold over what is left of a list.
use Rattle.std.proofs.Common.{◌≡◌, ◌∙◌, ◌+◌, ◌<◌, ℕ, suc, List, length, drop, sym, ap, ap₂, arith, drop-cons}
use Rattle.std.specs.List.{fold, slice_index_or}

-- one more element
pub fold_next : {X Y : Type 0} (f : Y → X → Y) (a b : Y) (xs : List X) (i : ℕ) (x d : X) → i < length xs → x ≡ slice_index_or xs i d → b ≡ f a x
    → fold f b (drop (i + 1) xs) ≡ fold f a (drop i xs)
fold_next f a b xs i x d lt at is =
    let next : i + 1 ≡ suc i = omega arith in
    ap₂ (λ y k. fold f y (drop k xs)) is next ∙ ap (λ y. fold f (f a y) (drop (suc i) xs)) at ∙ sym (ap (fold f a) (drop-cons xs i d lt))
