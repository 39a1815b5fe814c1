-- Which ports are in a list.
use Rattle.std.proofs.Common.{◌≡◌, ◌≢◌, ℕ, zero, suc, ◌+◌, ◌<◌, ◌||◌, ◌&&◌, List, [], ◌∷◌, ◌++◌, length, get_or, take, Bool, true, false, refl, ap, sym, ◌∙◌, subst, inl, inr, ◌⊎◌, arith, Some, None}
use Rattle.std.proofs.lemmas.Bool.{cases_eq}
use Rattle.std.proofs.lemmas.Grind.{common_steps, get_or_default_zero}
use Rattle.std.proofs.lemmas.List.Sorted.{Contains-permutation, IsPermutation-sym, length_permutation}
use Rattle.std.proofs.lemmas.List.{take_more}
use Rattle.std.specs.List.{Contains}
use Rattle.std.specs.List.Sorted.{IsPermutation}
use Rattle.ir_prefix.specs.Joined.{is_among, is_named, IsShared, ArePortsOfBoth}
use Rattle.ir_prefix.specs.Described.{IsJoin}

pub among_at : (xs : List ℕ) (i p : ℕ) → i < length xs → get_or xs i 0 ≡ p → is_among xs p ≡ true
among_at [] i p l e = absurd (omega arith)
among_at (x ∷ xs) zero p l e = grind (arith, common_steps)
among_at (x ∷ xs) (suc i) p l e = let h = among_at xs i p (omega arith) e in grind (arith, common_steps, h)

pub among_none : (xs : List ℕ) (p : ℕ) → ((k : ℕ) → k < length xs → get_or xs k 0 ≢ p) → is_among xs p ≡ false
among_none [] p h = refl
among_none (x ∷ xs) p h =
    let rest = among_none xs p (λ k l. h (suc k) (omega arith)) in
    let here : x ≢ p = h 0 (omega arith) in
    grind (arith, common_steps, rest, here)

pub among_found : (xs : List ℕ) (p : ℕ) → is_among xs p ≡ true → Contains xs p
among_found [] p e = absurd cc
among_found (x ∷ xs) p e =
    elim (cases_eq x p) [
      | inl same ↦ (0, omega arith, same)
      | inr other ↦
          let rest : is_among xs p ≡ true = grind (arith, common_steps, e, other) in
          let r = among_found xs p rest in
          (suc r.0, omega (arith, r.1), r.2)
    ]

pub found_among : (xs : List ℕ) (p : ℕ) → Contains xs p → is_among xs p ≡ true
found_among xs p h = among_at xs h.0 p h.1 (sym (get_or_default_zero xs h.0 p h.1) ∙ h.2)

same_bool : (a b : Bool) → (a ≡ true → b ≡ true) → (b ≡ true → a ≡ true) → a ≡ b
same_bool true b f g = sym (f refl)
same_bool false true f g = g refl
same_bool false false f g = refl

pub among_permutation : (xs ys : List ℕ) → IsPermutation xs ys → (p : ℕ) → is_among ys p ≡ is_among xs p
among_permutation xs ys h p =
    same_bool (is_among ys p) (is_among xs p)
    (λ e. found_among xs p (Contains-permutation ys xs p (IsPermutation-sym xs ys h) (among_found ys p e)))
    (λ e. found_among ys p (Contains-permutation xs ys p h (among_found xs p e)))

pub among_append : (xs ys : List ℕ) (p : ℕ) → is_among (xs ++ ys) p ≡ (is_among xs p || is_among ys p)
among_append [] ys p = refl
among_append (x ∷ xs) ys p = let h = among_append xs ys p in grind (arith, common_steps, h)

pub head_among : (x : ℕ) (xs : List ℕ) → is_among (x ∷ xs) x ≡ true
head_among x xs = grind (arith, common_steps)

pub and_false : (a : Bool) → (a && false) ≡ false
and_false true = refl
and_false false = refl

pub and_true : (a : Bool) → (a && true) ≡ a
and_true true = refl
and_true false = refl

pub or_false : (a : Bool) → (a || false) ≡ a
or_false true = refl
or_false false = refl

pub or_true : (a : Bool) → (a || true) ≡ true
or_true true = refl
or_true false = refl

-- the names of two nodes that are not both free, joined
pub joined_is_join : (a b c : List ℕ) → (0 < length a) ⊎ (0 < length b) → ArePortsOfBoth a b c → IsJoin a b c
joined_is_join [] [] c n h = absurd (elim n [ inl l ↦ omega (arith, l) | inr l ↦ omega (arith, l) ])
joined_is_join [] (y ∷ ys) [] n (inl s) = absurd (omega (arith, s.0))
joined_is_join [] (y ∷ ys) (z ∷ zs) n (inl s) = let e = sym (head_among z zs) ∙ s.1 z in absurd cc
joined_is_join [] (y ∷ ys) [] n (inr u) = let e : false ≡ true = u.1 y ∙ head_among y ys in absurd cc
joined_is_join [] (y ∷ ys) (z ∷ zs) n (inr u) = record {
  some = omega arith;
  joins = inl (λ q. elim q as (λ v. is_named (z ∷ zs) v ≡ (is_named [] v && is_named (y ∷ ys) v)) [ None ↦ refl | Some p ↦ u.1 p ]);
}
joined_is_join (x ∷ xs) [] [] n (inl s) = absurd (omega (arith, s.0))
joined_is_join (x ∷ xs) [] (z ∷ zs) n (inl s) = let e : true ≡ false = sym (head_among z zs) ∙ s.1 z ∙ and_false (is_among (x ∷ xs) z) in absurd cc
joined_is_join (x ∷ xs) [] [] n (inr u) = let e : false ≡ true = u.1 x ∙ or_false (is_among (x ∷ xs) x) ∙ head_among x xs in absurd cc
joined_is_join (x ∷ xs) [] (z ∷ zs) n (inr u) = record {
  some = omega arith;
  joins = inl (λ q. elim q as (λ v. is_named (z ∷ zs) v ≡ (is_named (x ∷ xs) v && is_named [] v)) [ None ↦ refl | Some p ↦ u.1 p ∙ or_false (is_among (x ∷ xs) p) ∙ sym (and_true (is_among (x ∷ xs) p)) ]);
}
joined_is_join (x ∷ xs) (y ∷ ys) [] n (inl s) = absurd (omega (arith, s.0))
joined_is_join (x ∷ xs) (y ∷ ys) (z ∷ zs) n (inl s) = record {
  some = omega arith;
  joins = inl (λ q. elim q as (λ v. is_named (z ∷ zs) v ≡ (is_named (x ∷ xs) v && is_named (y ∷ ys) v)) [ None ↦ refl | Some p ↦ s.1 p ]);
}
joined_is_join (x ∷ xs) (y ∷ ys) [] n (inr u) = let e : false ≡ (is_among (x ∷ xs) x || is_among (y ∷ ys) x) = u.1 x in let t = head_among x xs in absurd (grind (arith, common_steps, e, t))
joined_is_join (x ∷ xs) (y ∷ ys) (z ∷ zs) n (inr u) = record {
  some = omega arith;
  joins = inr (λ q. elim q as (λ v. ((is_named (x ∷ xs) v && is_named (y ∷ ys) v) ≡ false) × (is_named (z ∷ zs) v ≡ (is_named (x ∷ xs) v || is_named (y ∷ ys) v))) [ None ↦ (refl, refl) | Some p ↦ (u.0 p, u.1 p) ]);
}

-- one more port of the second list
module _ (a ms xs : List ℕ) (i x : ℕ) (inside : i < length xs) (at : x ≡ get_or xs i x) (so_far : (p : ℕ) → is_among ms p ≡ (is_among a p && is_among (take i xs) p)) where
  taken_more : (p : ℕ) → is_among (take (i + 1) xs) p ≡ (is_among (take i xs) p || is_among (x ∷ []) p)
  taken_more p =
      let e : get_or xs i 0 ≡ x = sym (get_or_default_zero xs i x inside) ∙ sym at in
      ap (λ (l : List ℕ). is_among l p) (take_more xs i 0 inside) ∙ among_append (take i xs) (get_or xs i 0 ∷ []) p ∙ ap (λ y. is_among (take i xs) p || is_among (y ∷ []) p) e

  other_among : (p : ℕ) → x ≢ p → is_among (x ∷ []) p ≡ false
  other_among p ne = among_none (x ∷ []) p (λ k l e. let z : k ≡ 0 = omega arith in ne (sym (ap (λ j. get_or (x ∷ []) j 0) z) ∙ e))

  pub shared_yes : is_among a x ≡ true → (p : ℕ) → is_among (ms ++ x ∷ []) p ≡ (is_among a p && is_among (take (i + 1) xs) p)
  shared_yes there p =
      let u = among_append ms (x ∷ []) p in
      let v = taken_more p in
      let s = so_far p in
      elim (cases_eq x p) [
        | inl same ↦
            let h : is_among a p ≡ true = subst (λ y. is_among a y ≡ true) same there in
            let k : is_among (x ∷ []) p ≡ true = subst (λ y. is_among (x ∷ []) y ≡ true) same (head_among x []) in
            u ∙ ap (λ b. is_among ms p || b) k ∙ or_true (is_among ms p) ∙ sym (ap (λ b. b && is_among (take (i + 1) xs) p) h ∙ v ∙ ap (λ b. is_among (take i xs) p || b) k ∙ or_true (is_among (take i xs) p))
        | inr ne ↦
            let k = other_among p ne in
            u ∙ ap (λ b. is_among ms p || b) k ∙ or_false (is_among ms p) ∙ s ∙ sym (ap (λ b. is_among a p && b) (v ∙ ap (λ b. is_among (take i xs) p || b) k ∙ or_false (is_among (take i xs) p)))
      ]

  pub shared_no : is_among a x ≡ false → (p : ℕ) → is_among ms p ≡ (is_among a p && is_among (take (i + 1) xs) p)
  shared_no absent p =
      let v = taken_more p in
      let s = so_far p in
      elim (cases_eq x p) [
        | inl same ↦
            let h : is_among a p ≡ false = subst (λ y. is_among a y ≡ false) same absent in
            s ∙ ap (λ b. b && is_among (take i xs) p) h ∙ sym (ap (λ b. b && is_among (take (i + 1) xs) p) h)
        | inr ne ↦
            let k = other_among p ne in
            s ∙ sym (ap (λ b. is_among a p && b) (v ∙ ap (λ b. is_among (take i xs) p || b) k ∙ or_false (is_among (take i xs) p)))
      ]

-- sorted, the ports of both lists, or those of one and then those of the other, are joined
pub sorted_are_joined : (a b m s c : List ℕ) → IsShared a b m → ((length m ≡ 0) × (s ≡ a ++ b)) ⊎ ((0 < length m) × (s ≡ m)) → IsPermutation s c → ArePortsOfBoth a b c
sorted_are_joined a b [] s c shared (inl e) perm =
    inr (λ p. sym (shared p), λ p. among_permutation s c perm p ∙ ap (λ (l : List ℕ). is_among l p) e.1 ∙ among_append a b p)
sorted_are_joined a b (x ∷ m) s c shared (inl e) perm = absurd (omega (arith, e.0))
sorted_are_joined a b m s c shared (inr e) perm =
    inl (let n = length_permutation s c perm in let k = ap (λ (l : List ℕ). length l) e.1 in omega (arith, e.0), λ p. among_permutation s c perm p ∙ ap (λ (l : List ℕ). is_among l p) e.1 ∙ shared p)
