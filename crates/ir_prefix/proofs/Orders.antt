-- Distinct prefixes, and their order.
use Rattle.std.proofs.Common.{◌≡◌, ℕ, zero, suc, ◌+◌, ◌-◌, ◌*◌, ◌/◌, ◌^◌, ◌<◌, ◌≤◌, ◌&&◌, ◌==◌, List, [], ◌∷◌, ◌++◌, length, get_or, Bool, true, false, cond, refl, ap, sym, ◌∙◌, inl, inr, arith, Option, None}
use Rattle.std.proofs.lemmas.Bool.{cases_eq, cases_lt}
use Rattle.std.proofs.lemmas.Grind.{common_steps}
use Rattle.std.proofs.lemmas.List.Elements.{Contains-get_or}
use Rattle.std.proofs.lemmas.List.Recursion.{is_count_by}
use Rattle.std.proofs.lemmas.List.Sorted.{sum_by-IsPermutation}
use Rattle.std.specs.List.{count_by}
use Rattle.std.specs.List.Sorted.{IsPermutation}
use Rattle.std.specs.Ordering.{nat_cmp, ordering_then, is_lt}
use Rattle.ir_prefix.specs.Described.{Describes, Trie, Free, Alike, Fork}
use Rattle.ir_prefix.specs.Longest.{IsBefore, IsLongestFirst}
use Rattle.ir_prefix.specs.Cover.{prefix_at, told_unless, cover_told, taken, cover_of, AreDistinct}
use Rattle.ir_prefix.specs.Joined.{is_named}
use Rattle.ir_prefix.specs.declared.cover.Prefix.{Prefix}
use Rattle.ir_prefix.proofs.Tallies.{hit, tally, tally_some, tally_found}
use Rattle.ir_prefix.proofs.Upper.{cover_inside}

abbrev pub is_same : ℕ → ℕ → Prefix → Bool
is_same l v m = (m.length == l) && (m.value == v)

hit_cond : (b : Bool) (n : ℕ) → hit b + n ≡ cond b (1 + n) n
hit_cond true n = refl
hit_cond false n = omega arith

pub tally_is_count : {X : Type 0} (p : X → Bool) (xs : List X) → tally p xs ≡ count_by p xs
tally_is_count p xs = is_count_by (tally p) p refl (λ x ys. hit_cond (p x) (tally p ys)) xs

pub tally-append : {X : Type 0} (p : X → Bool) (xs ys : List X) → tally p (xs ++ ys) ≡ tally p xs + tally p ys
tally-append p [] ys = omega arith
tally-append p (x ∷ xs) ys = let h = tally-append p xs ys in omega arith

hit_true : (b : Bool) → b ≡ true → hit b ≡ 1
hit_true true e = refl
hit_true false e = absurd cc

pub two_at : {X : Type 0} (p : X → Bool) (xs : List X) (i j : ℕ) (d : X) → i < j → j < length xs → p (get_or xs i d) ≡ true → p (get_or xs j d) ≡ true → 2 ≤ tally p xs
two_at p [] i j d l m e f = absurd (omega arith)
two_at p (x ∷ xs) i zero d l m e f = absurd (omega arith)
two_at p (x ∷ xs) zero (suc j) d l m e f =
    let t = tally_some p xs (get_or xs j d) (Contains-get_or xs j d (omega arith)) f in
    let h = hit_true (p x) e in
    omega arith
two_at p (x ∷ xs) (suc i) (suc j) d l m e f = let t = two_at p xs i j d (omega arith) (omega arith) e f in omega arith

pub distinct_permutation : (xs ys : List Prefix) → IsPermutation xs ys → AreDistinct xs → AreDistinct ys
distinct_permutation xs ys perm distinct l v =
    let h = distinct l v in
    let e = sum_by-IsPermutation (λ (m : Prefix). cond ((m.length == l) && (m.value == v)) 1 0) xs ys perm in
    omega arith

pub same_is : (l v : ℕ) (m : Prefix) → is_same l v m ≡ true → (m.length ≡ l) × (m.value ≡ v)
same_is l v m e = (grind (arith, common_steps, e), grind (arith, common_steps, e))

same_from : (l v : ℕ) (m : Prefix) → m.length ≡ l → m.value ≡ v → is_same l v m ≡ true
same_from l v m e f = grind (arith, common_steps, e, f)

one_hit : (b : Bool) → hit b + 0 ≤ 1
one_hit true = omega arith
one_hit false = omega arith

hit_some : (b : Bool) → 0 < hit b + 0 → b ≡ true
hit_some true h = refl
hit_some false h = absurd (omega arith)

told_once : (b : Bool) (m : Prefix) (l v : ℕ) → (tally (is_same l v) (told_unless b m) ≤ 1) × (0 < tally (is_same l v) (told_unless b m) → m.length ≡ l)
told_once true m l v = (omega arith, λ h. absurd (omega arith))
told_once false m l v = (one_hit (is_same l v m), λ h. (same_is l v m (hit_some (is_same l v m) h)).0)

module _ (bits : ℕ) (ports : List (Option ℕ)) (l v : ℕ) where
  pub cover_once : (t : Trie) (h i : ℕ) (q : Option ℕ) → Describes ports h i t → h ≤ bits → tally (is_same l v) (cover_of bits t h i q) ≤ 1
  cover_once Free h i q d le = omega arith
  cover_once (Alike p) h i q d le = (told_once (is_named (p ∷ []) q) (prefix_at bits h i p) l v).0
  cover_once (Fork names t r) h i q d le =
      let below = taken names q in
      let here = cover_told bits h i names q in
      let cl = cover_of bits t (h - 1) (2 * i) below in
      let cr = cover_of bits r (h - 1) (2 * i + 1) below in
      let u = told_once (is_named names q) (prefix_at bits h i (get_or names 0 0)) l v in
      let x = cover_once t (h - 1) (2 * i) below d.1 (omega arith) in
      let y = cover_once r (h - 1) (2 * i + 1) below d.2 (omega arith) in
      let s = tally-append (is_same l v) here (cl ++ cr) in
      let w = tally-append (is_same l v) cl cr in
      let some = d.0 in
      let lefts : 0 < tally (is_same l v) cl → (bits - l ≤ h - 1) × (v / 2 ^ (h - 1) ≡ 2 * i) = λ more.
      let o = tally_found (is_same l v) cl more in
      let in' = cover_inside bits ports t (h - 1) (2 * i) below d.1 (omega arith) o.0 o.1 in
      let e = same_is l v o.0 o.2 in
      (let low = in'.low in omega (arith, e.0), sym (ap (λ n. n / 2 ^ (h - 1)) e.1) ∙ in'.value) in
      let rights : 0 < tally (is_same l v) cr → (bits - l ≤ h - 1) × (v / 2 ^ (h - 1) ≡ 2 * i + 1) = λ more.
      let o = tally_found (is_same l v) cr more in
      let in' = cover_inside bits ports r (h - 1) (2 * i + 1) below d.2 (omega arith) o.0 o.1 in
      let e = same_is l v o.0 o.2 in
      (let low = in'.low in omega (arith, e.0), sym (ap (λ n. n / 2 ^ (h - 1)) e.1) ∙ in'.value) in
      elim (cases_lt 0 (tally (is_same l v) here)) [
        | inl more ↦
            let e = u.1 more in
            elim (cases_lt 0 (tally (is_same l v) cl)) [
              | inl m ↦ let k = lefts m in absurd (omega (arith, k.0))
              | inr n ↦
                  elim (cases_lt 0 (tally (is_same l v) cr)) [
                    | inl m ↦ let k = rights m in absurd (omega (arith, k.0))
                    | inr z ↦ omega (arith, u.0)
                  ]
            ]
        | inr none ↦
            elim (cases_lt 0 (tally (is_same l v) cl)) [
              | inl m ↦
                  elim (cases_lt 0 (tally (is_same l v) cr)) [
                    | inl n ↦ let k = lefts m in let g = rights n in absurd (omega (arith, k.1, g.1))
                    | inr z ↦ omega arith
                  ]
              | inr n ↦ omega arith
            ]
      ]

pub cover_distinct : (bits : ℕ) (ports : List (Option ℕ)) (t : Trie) → Describes ports bits 0 t → AreDistinct (cover_of bits t bits 0 None)
cover_distinct bits ports t d l v =
    let h = cover_once bits ports l v t bits 0 None d (omega arith) in
    let e = tally_is_count (is_same l v) (cover_of bits t bits 0 None) in
    omega arith

-- in the order of the key, of two prefixes that are not the same the first is before the second
before_by : (m o : Prefix) → is_lt (ordering_then (nat_cmp m.length o.length) (nat_cmp o.value m.value)) ≡ false → (m.length ≡ o.length → m.value ≡ o.value → ⊥) → IsBefore m o
before_by m o e ne =
    elim (cases_lt o.length m.length) [
      | inl longer ↦ inl longer
      | inr le ↦
          let eq : m.length ≡ o.length = grind (arith, common_steps, e, le) in
          let no : m.value ≤ o.value = grind (arith, common_steps, e, eq) in
          inr (eq, elim (cases_eq m.value o.value) [ inl s ↦ absurd (ne eq s) | inr n ↦ omega arith ])
    ]

pub sorted_before : (set : List Prefix) → AreDistinct set
    → ((k : ℕ) (d : Prefix) → 0 ≤ k → k + 1 < length set → is_lt (ordering_then (nat_cmp (get_or set k d).length (get_or set (k + 1) d).length) (nat_cmp (get_or set (k + 1) d).value (get_or set k d).value)) ≡ false)
    → IsLongestFirst set
sorted_before set distinct up = λ k d inside.
    let m = get_or set k d in
    let o = get_or set (k + 1) d in
    before_by m o (up k d (omega arith) inside)
    (λ e f.
    let two = two_at (is_same m.length m.value) set k (k + 1) d (omega arith) inside (same_from m.length m.value m refl refl) (same_from m.length m.value o (sym e) (sym f)) in
    let one = distinct m.length m.value in
    let c = tally_is_count (is_same m.length m.value) set in
    omega arith)
