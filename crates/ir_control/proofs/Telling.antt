-- Each outcome goes into the slot of its packet, and is reported in order.
use Rattle.std.specs.Prelude.{◌≡◌, ℕ, suc, ◌+◌, ◌<◌, ◌≤◌, List, [], ◌∷◌, ◌++◌, All, Option, Some, None, length, map, sum_by, slice_index_or}
use Rattle.std.proofs.Common.{refl, arith, sym, ap, ◌∙◌, ◌⊎◌, inl, inr}
use Rattle.std.proofs.lemmas.Bool.{cases_eq}
use Rattle.std.proofs.lemmas.List.{length-map, get_or_append_left, get_or_push, map-append}
use Rattle.std.proofs.lemmas.List.Sums.{sum_by_push, sum_by-cons, sum_by-append}
use Rattle.std.proofs.lemmas.List.Elements.{All-nil, All-cons, All-head, All-tail}

-- what was put into the slots is no more in the rest
pub rest_put : {X : Type 0} (f : X → ℕ) (slots slots_1 before all : ℕ) (items rest : List X) (x : X) → items ≡ rest ++ x ∷ [] → slots + sum_by f items ≡ before + all → slots_1 ≡ slots + f x → slots_1 + sum_by f rest ≡ before + all
rest_put f slots slots_1 before all items rest x popped was put =
    let e = ap (sum_by f) popped ∙ sum_by_push f rest x in
    omega (arith, e, was, put)

pub fits_now : {X : Type 0} (f : X → ℕ) (slots before all m : ℕ) (items rest : List X) (x : X) → items ≡ rest ++ x ∷ [] → slots + sum_by f items ≡ before + all → before + all ≤ m → slots + f x ≤ m
fits_now f slots before all m items rest x popped was most =
    let e = ap (sum_by f) popped ∙ sum_by_push f rest x in
    omega (arith, e, was, most)

-- the same, with the first of the rest in hand
pub head_fits : {X : Type 0} (f : X → ℕ) (slots before all m : ℕ) (items rest : List X) (x : X) → items ≡ x ∷ rest → slots + sum_by f items ≡ before + all → before + all ≤ m → slots + f x ≤ m
head_fits f slots before all m items rest x taken was most =
    let e = ap (sum_by f) taken ∙ sum_by-cons f x rest in
    omega (arith, e, was, most)

pub head_put : {X : Type 0} (f : X → ℕ) (slots slots_1 before all : ℕ) (items rest : List X) (x : X) → items ≡ x ∷ rest → slots + sum_by f items ≡ before + all → slots_1 ≡ slots + f x → slots_1 + sum_by f rest ≡ before + all
head_put f slots slots_1 before all items rest x taken was put =
    let e = ap (sum_by f) taken ∙ sum_by-cons f x rest in
    omega (arith, e, was, put)

-- a channel in hand
pub part_fits : {X : Type 0} (f : X → ℕ) (slots before all m : ℕ) (items rest part : List X) → items ≡ rest ++ part → slots + sum_by f items ≡ before + all → before + all ≤ m → slots + sum_by f part ≤ m
part_fits f slots before all m items rest part popped was most =
    let e = ap (sum_by f) popped ∙ sum_by-append f rest part in
    omega (arith, e, was, most)

pub part_put : {X : Type 0} (f : X → ℕ) (slots slots_1 before all : ℕ) (items rest part : List X) → items ≡ rest ++ part → slots + sum_by f items ≡ before + all → slots_1 ≡ slots + sum_by f part → slots_1 + sum_by f rest ≡ before + all
part_put f slots slots_1 before all items rest part popped was put =
    let e = ap (sum_by f) popped ∙ sum_by-append f rest part in
    omega (arith, e, was, put)

-- the first part and the last part of what holds of each
pub all_first : {X : Type 0} (P : X → Type 0) (xs ys : List X) → All P (xs ++ ys) → All P xs
all_first P [] ys all = All-nil P
all_first P (x ∷ xs) ys all = All-cons P x xs (All-head P x (xs ++ ys) all) (all_first P xs ys (All-tail P x (xs ++ ys) all))

pub all_rest : {X : Type 0} (P : X → Type 0) (xs ys : List X) → All P (xs ++ ys) → All P ys
all_rest P [] ys all = all
all_rest P (x ∷ xs) ys all = all_rest P xs ys (All-tail P x (xs ++ ys) all)

-- two lists of one length that have the same at each place
pub same_list : {A : Type 0} (xs ys : List A) (d : A) → length xs ≡ length ys → ((k : ℕ) → k < length xs → slice_index_or xs k d ≡ slice_index_or ys k d) → xs ≡ ys
same_list [] [] d n same = refl
same_list [] (y ∷ ys) d n same = absurd (omega (arith, n))
same_list (x ∷ xs) [] d n same = absurd (omega (arith, n))
same_list (x ∷ xs) (y ∷ ys) d n same =
    ap (λ z. z ∷ xs) (same 0 (omega arith)) ∙ ap (λ zs. y ∷ zs) (same_list xs ys d (omega (arith, n)) (λ k lt. same (suc k) (omega (arith, lt))))

-- one outcome more
pub told_more : {O : Type 0} (all : List (Option O)) (outcomes : List O) (o : O) (i : ℕ) → length outcomes ≡ i → slice_index_or all i None ≡ Some o
    → ((k : ℕ) → k < i → slice_index_or (map (λ o. Some o) outcomes) k None ≡ slice_index_or all k None)
    → (k : ℕ) → k < i + 1 → slice_index_or (map (λ o. Some o) (outcomes ++ o ∷ [])) k None ≡ slice_index_or all k None
told_more {O} all outcomes o i len here same k lt = ap (λ (xs : List (Option O)). slice_index_or xs k None) (map-append (λ (o : O). Some o) outcomes (o ∷ [])) ∙ go (cases_eq k i) where
  go : ((k ≡ i) ⊎ (k ≡ i → ⊥)) → slice_index_or (map (λ o. Some o) outcomes ++ Some o ∷ []) k None ≡ slice_index_or all k None
  go (inl e) = get_or_push (map (λ (o : O). Some o) outcomes) (Some o) None k (length-map outcomes (λ (o : O). Some o) ∙ len ∙ sym e) ∙ sym here ∙ ap (λ (j : ℕ). slice_index_or all j None) (sym e)
  go (inr ne) = get_or_append_left (map (λ (o : O). Some o) outcomes) (Some o ∷ []) None k (let m = length-map outcomes (λ (o : O). Some o) in omega (arith, m, len, lt, ne)) ∙ same k (omega (arith, lt, ne))

pub map_push : {A B : Type 0} (f : A → B) (xs : List A) (x : A) (bs : List B) → bs ≡ map f xs → bs ++ f x ∷ [] ≡ map f (xs ++ x ∷ [])
map_push {B = B} f xs x bs e = ap (λ (ys : List B). ys ++ f x ∷ []) e ∙ sym (map-append f xs (x ∷ []))
