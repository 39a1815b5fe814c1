-- The names of a node as the bits of a number.
use Rattle.std.proofs.Common.{◌≡◌, ◌≢◌, ℕ, zero, suc, ◌+◌, ◌-◌, ◌^◌, ◌<◌, ◌≤◌, ◌==◌, ◌&&◌, ◌||◌, min, max, List, [], ◌∷◌, length, get_or, filter, Bool, true, false, refl, ap, ap₂, sym, ◌∙◌, subst, inl, inr, ◌⊎◌, arith, Option, Some, None, w64}
use Rattle.std.proofs.lemmas.Bool.{cases_eq, cases_lt, cases_Bool, eq-eqb, ne_eqb, eqb-true}
use Rattle.std.proofs.lemmas.Grind.{common_steps, get_or_default_zero}
use Rattle.std.proofs.lemmas.List.FromFn.{get_or-range_with_len, length-range_with_len}
use Rattle.std.proofs.lemmas.List.Kept.{IsNonDecreasingBy-filter}
use Rattle.std.proofs.lemmas.Nat.{and_le_l}
use Rattle.std.proofs.lemmas.Nat.Bits.{bit_at-lt, bit_at-zero, bit_at_and, bit_at_or, bit_at-pow_same, bit_at-pow_other, bit_at_ones, bit_at-trailing_zeros}
use Rattle.std.specs.Int.{bit_at, trailing_zeros}
use Rattle.std.specs.Int.Bits.{bit_and, bit_or}
use Rattle.std.specs.List.Sorted.{IsNonDecreasing}
use Rattle.ir_prefix.specs.Described.{IsJoin}
use Rattle.ir_prefix.specs.Joined.{is_among, is_named}
use Rattle.ir_prefix.specs.Marks.{low_ports, bit_of, AreNameBits, ports_in, joined_bits}
use Rattle.ir_prefix.proofs.AmongLemmas.{among_at, among_none, among_found, head_among, and_false, and_true}

-- the low ports
low_is : (p : ℕ) → p < 63 → get_or low_ports p 0 ≡ p
unfolding low_ports
low_is p l = let z : 0 + p ≡ p = omega arith in get_or-range_with_len 0 63 p 0 l ∙ z

low_many : length low_ports ≡ 63
unfolding low_ports
low_many = length-range_with_len 0 63

low_among : (p : ℕ) → p < 63 → is_among low_ports p ≡ true
low_among p l = let n = low_many in among_at low_ports p p (omega (arith, n)) (low_is p l)

low_absent : (p : ℕ) → 63 ≤ p → is_among low_ports p ≡ false
low_absent p l = among_none low_ports p (λ k m e. let n = low_many in let s = low_is k (omega (arith, n)) in omega (arith, n, s))

low_default : (k d : ℕ) → k < 63 → get_or low_ports k d ≡ k
unfolding low_ports
low_default k d l = let z : 0 + k ≡ k = omega arith in get_or-range_with_len 0 63 k d l ∙ z

low_rise : IsNonDecreasing low_ports
low_rise = λ i j d le lt.
    let n = low_many in
    let a = low_default i d (omega (arith, n)) in
    let b = low_default j d (omega (arith, n)) in
    omega (arith, a, b)

among_filter : (f : ℕ → Bool) (xs : List ℕ) (p : ℕ) → is_among (filter f xs) p ≡ (f p && is_among xs p)
among_filter f [] p = sym (and_false (f p))
among_filter f (x ∷ xs) p =
    let h = among_filter f xs p in
    elim (cases_eq x p) [
      | inl same ↦
          elim (cases_Bool (f x)) [
            | inl passes ↦ let there : f p ≡ true = ap f (sym same) ∙ passes in grind (arith, common_steps, h, passes, there, same)
            | inr fails ↦ let there : f p ≡ false = ap f (sym same) ∙ fails in grind (arith, common_steps, h, fails, there, same)
          ]
      | inr other ↦
          elim (cases_Bool (f x)) [
            | inl passes ↦ grind (arith, common_steps, h, passes, other)
            | inr fails ↦ grind (arith, common_steps, h, fails, other)
          ]
    ]

pub ports_rise : (m : ℕ) → IsNonDecreasing (ports_in m)
ports_rise m = IsNonDecreasingBy-filter (λ x. x) (λ p. bit_at m p == 1) low_ports low_rise

low_named : (m p : ℕ) → p < 63 → is_among (ports_in m) p ≡ (bit_at m p == 1)
low_named m p l = among_filter (λ k. bit_at m k == 1) low_ports p ∙ ap (λ b. (bit_at m p == 1) && b) (low_among p l) ∙ and_true (bit_at m p == 1)

high_unnamed : (m p : ℕ) → 63 ≤ p → is_among (ports_in m) p ≡ false
high_unnamed m p l = among_filter (λ k. bit_at m k == 1) low_ports p ∙ ap (λ b. (bit_at m p == 1) && b) (low_absent p l) ∙ and_false (bit_at m p == 1)

-- what some names have
no_port_unnamed : (xs : List ℕ) → 0 < length xs → is_named xs None ≡ false
no_port_unnamed [] l = absurd (omega arith)
no_port_unnamed (x ∷ xs) l = refl

pub port_named : (xs : List ℕ) (p : ℕ) → 0 < length xs → is_named xs (Some p) ≡ is_among xs p
port_named [] p l = absurd (omega arith)
port_named (x ∷ xs) p l = refl

head_named : (xs : List ℕ) → 0 < length xs → (p : ℕ) × (is_named xs (Some p) ≡ true)
head_named [] l = absurd (omega arith)
head_named (x ∷ xs) l = (x, head_among x xs)

pub all_named : (xs : List ℕ) (q : Option ℕ) → length xs ≡ 0 → is_named xs q ≡ true
all_named [] q e = refl
all_named (x ∷ xs) q e = absurd (omega arith)

pub unset : (m i : ℕ) → (bit_at m i ≡ 1 → ⊥) → bit_at m i ≡ 0
unset m i n = let l = bit_at-lt m i in elim (cases_eq (bit_at m i) 1) [ inl e ↦ absurd (n e) | inr k ↦ omega arith ]

set_among : (m p : ℕ) → p < 63 → bit_at m p ≡ 1 → is_among (ports_in m) p ≡ true
set_among m p l e = low_named m p l ∙ eq-eqb (bit_at m p) 1 e

some_in : (m p : ℕ) → p < 63 → bit_at m p ≡ 1 → 0 < length (ports_in m)
some_in m p l e =
    let k = among_found (ports_in m) p (set_among m p l e) in
    let s = k.1 in
    omega (arith, s)

-- the test of `has_port`
pub bits_name : (m p : ℕ) → 0 < length (ports_in m) → p < 63 → (bit_at m p == 1) ≡ is_named (ports_in m) (Some p)
bits_name m p some l = sym (port_named (ports_in m) p some ∙ low_named m p l)

pub bits_name_none : (m p : ℕ) → 0 < length (ports_in m) → 63 ≤ p → false ≡ is_named (ports_in m) (Some p)
bits_name_none m p some l = sym (port_named (ports_in m) p some ∙ high_unnamed m p l)

pub bits_name_above : (m : ℕ) → 0 < length (ports_in m) → false ≡ is_named (ports_in m) None
bits_name_above m some = sym (no_port_unnamed (ports_in m) some)

found_at : (xs : List ℕ) (z : ℕ) → is_among xs z ≡ true → (k : ℕ) × (k < length xs) × (get_or xs k 0 ≡ z)
found_at xs z e = let k = among_found xs z e in (k.0, k.1, sym (get_or_default_zero xs k.0 z k.1) ∙ k.2)

-- the least port is the place of the lowest bit
pub least_is : (m : ℕ) → m < 2 ^ 64 → 0 < length (ports_in m) → trailing_zeros w64 m ≡ get_or (ports_in m) 0 0
least_is m fits some =
    let xs = ports_in m in
    let h = get_or xs 0 0 in
    let there : is_among xs h ≡ true = among_at xs 0 h some refl in
    let low : h < 63 = elim (cases_lt h 63) [ inl l ↦ l | inr high ↦ absurd (grind (arith, common_steps, there, high_unnamed m h high)) ] in
    let set : bit_at m h ≡ 1 = eqb-true (bit_at m h) 1 (sym (low_named m h low) ∙ there) in
    let pos : 0 < m = elim (cases_eq m 0) [ inl z ↦ let e = ap (λ n. bit_at n h) z ∙ bit_at-zero h in absurd (omega (arith, set, e)) | inr n ↦ omega arith ] in
    let t = bit_at-trailing_zeros w64 m pos fits in
    let z = trailing_zeros w64 m in
    let le : z ≤ h = elim (cases_lt h z) [ inl l ↦ let e = t.2 h l in absurd (omega (arith, set, e)) | inr n ↦ n ] in
    let k = found_at xs z (set_among m z (omega arith) t.1) in
    let up : h ≤ get_or xs k.0 0 = ports_rise m 0 k.0 0 (omega arith) k.1 in
    let at = k.2 in
    omega (arith, le, up, at)

-- numbers whose bits are the names
pub ports_are_bits : (m p : ℕ) → bit_at m 63 ≡ 0 → p < 63 → bit_at m p ≡ 1 → AreNameBits (ports_in m) m
ports_are_bits m p top low set = λ q.
    let some = some_in m p low set in
    elim q as (λ v. is_named (ports_in m) v ≡ (bit_at m (bit_of v) == 1)) [
      | None ↦ sym (bits_name_above m some) ∙ sym (ne_eqb (bit_at m 63) 1 (λ e. omega (arith, e, top)))
      | Some r ↦
          elim (cases_lt r 63) [
            | inl l ↦ let e : min r 63 ≡ r = omega arith in sym (bits_name m r some l) ∙ ap (λ i. bit_at m i == 1) (sym e)
            | inr g ↦ let e : min r 63 ≡ 63 = omega arith in sym (bits_name_none m r some g) ∙ sym (ne_eqb (bit_at m 63) 1 (λ k. omega (arith, k, top))) ∙ ap (λ i. bit_at m i == 1) (sym e)
          ]
    ]

pub all_are_bits : AreNameBits [] (2 ^ 64 - 1)
all_are_bits = λ q.
    elim q as (λ v. true ≡ (bit_at (2 ^ 64 - 1) (bit_of v) == 1)) [
      | None ↦ sym (eq-eqb (bit_at (2 ^ 64 - 1) 63) 1 (bit_at_ones 64 63 (omega arith)))
      | Some r ↦ sym (eq-eqb (bit_at (2 ^ 64 - 1) (min r 63)) 1 (bit_at_ones 64 (min r 63) (omega arith)))
    ]

pub one_is_bits : (p : ℕ) → p < 63 → AreNameBits (p ∷ []) (2 ^ p)
one_is_bits p l = λ q.
    elim q as (λ v. is_named (p ∷ []) v ≡ (bit_at (2 ^ p) (bit_of v) == 1)) [
      | None ↦ sym (ne_eqb (bit_at (2 ^ p) 63) 1 (λ e. let o = bit_at-pow_other p 63 (λ k. omega (arith, k)) in omega (arith, e, o)))
      | Some r ↦
          elim (cases_eq r p) [
            | inl same ↦
                let e : min r 63 ≡ p = omega arith in
                let s : bit_at (2 ^ p) (min r 63) ≡ 1 = ap (λ i. bit_at (2 ^ p) i) e ∙ bit_at-pow_same p in
                subst (λ k. is_among (p ∷ []) k ≡ true) (sym same) (head_among p []) ∙ sym (eq-eqb (bit_at (2 ^ p) (min r 63)) 1 s)
            | inr other ↦
                let n : min r 63 ≢ p = λ e. elim (cases_lt r 63) [ inl low ↦ let m : min r 63 ≡ r = omega arith in other (sym m ∙ e) | inr high ↦ let m : min r 63 ≡ 63 = omega arith in absurd (omega (arith, m, e)) ] in
                let o = bit_at-pow_other p (min r 63) n in
                among_none (p ∷ []) r (λ k m e. let z : k ≡ 0 = omega arith in other (sym (sym (ap (λ j. get_or (p ∷ []) j 0) z) ∙ e)))
                ∙ sym (ne_eqb (bit_at (2 ^ p) (min r 63)) 1 (λ e. omega (arith, e, o)))
          ]
    ]

-- bits of both numbers, and of either
both_set : (x y : ℕ) → x < 2 → y < 2 → (min x y == 1) ≡ ((x == 1) && (y == 1))
both_set zero zero a b = refl
both_set zero (suc zero) a b = refl
both_set (suc zero) zero a b = refl
both_set (suc zero) (suc zero) a b = refl
both_set (suc (suc x)) y a b = absurd (omega arith)
both_set zero (suc (suc y)) a b = absurd (omega arith)
both_set (suc zero) (suc (suc y)) a b = absurd (omega arith)

either_set : (x y : ℕ) → x < 2 → y < 2 → (max x y == 1) ≡ ((x == 1) || (y == 1))
either_set zero zero a b = refl
either_set zero (suc zero) a b = refl
either_set (suc zero) zero a b = refl
either_set (suc zero) (suc zero) a b = refl
either_set (suc (suc x)) y a b = absurd (omega arith)
either_set zero (suc (suc y)) a b = absurd (omega arith)
either_set (suc zero) (suc (suc y)) a b = absurd (omega arith)

module _ (xs ys : List ℕ) (a b : ℕ) (left : AreNameBits xs a) (right : AreNameBits ys b) where
  shared_named : (q : Option ℕ) → (bit_at (bit_and a b) (bit_of q) == 1) ≡ (is_named xs q && is_named ys q)
  shared_named q =
      ap (λ k. k == 1) (bit_at_and a b (bit_of q)) ∙ both_set (bit_at a (bit_of q)) (bit_at b (bit_of q)) (bit_at-lt a (bit_of q)) (bit_at-lt b (bit_of q))
      ∙ ap₂ (λ u v. u && v) (sym (left q)) (sym (right q))

  either_named : (q : Option ℕ) → (bit_at (bit_or a b) (bit_of q) == 1) ≡ (is_named xs q || is_named ys q)
  either_named q =
      ap (λ k. k == 1) (bit_at_or a b (bit_of q)) ∙ either_set (bit_at a (bit_of q)) (bit_at b (bit_of q)) (bit_at-lt a (bit_of q)) (bit_at-lt b (bit_of q))
      ∙ ap₂ (λ u v. u || v) (sym (left q)) (sym (right q))

  -- where the last bit is shared both have every name
  pub both_free : bit_at (bit_and a b) 63 ≡ 1 → (length xs ≡ 0) × (length ys ≡ 0)
  both_free e =
      let s : (is_named xs None && is_named ys None) ≡ true = sym (shared_named None) ∙ eq-eqb (bit_at (bit_and a b) 63) 1 e in (
        elim (cases_lt 0 (length xs)) [ inl l ↦ absurd (grind (arith, common_steps, s, no_port_unnamed xs l)) | inr z ↦ omega arith ],
        elim (cases_lt 0 (length ys)) [ inl l ↦ absurd (grind (arith, common_steps, s, no_port_unnamed ys l)) | inr z ↦ omega arith ],
      )

  -- and the number of both all bits
  pub all_shared : length xs ≡ 0 → length ys ≡ 0 → (q : Option ℕ) → (bit_at (bit_and a b) (bit_of q) == 1) ≡ true
  all_shared e f q = let s = shared_named q in let free = all_named xs q e in let also = all_named ys q f in grind (arith, common_steps, s, free, also)

  shared_zero : bit_and a b ≡ 0 → (q : Option ℕ) → (is_named xs q && is_named ys q) ≡ false
  shared_zero e q =
      let z : bit_at (bit_and a b) (bit_of q) ≡ 0 = ap (λ n. bit_at n (bit_of q)) e ∙ bit_at-zero (bit_of q) in
      sym (shared_named q) ∙ ne_eqb (bit_at (bit_and a b) (bit_of q)) 1 (λ k. omega (arith, k, z))

  left_some : bit_and a b ≡ 0 → (0 < length xs) ⊎ (0 < length ys) → 0 < length xs
  left_some e some =
      elim (cases_lt 0 (length xs)) [
        | inl l ↦ l
        | inr z ↦
            let more : 0 < length ys = elim some [ inl l ↦ absurd (omega arith) | inr l ↦ l ] in
            let p = head_named ys more in
            let free = all_named xs (Some p.0) (omega arith) in
            let apart = shared_zero e (Some p.0) in
            let has = p.1 in
            absurd (grind (arith, common_steps, free, apart, has))
      ]

  right_some : bit_and a b ≡ 0 → (0 < length xs) ⊎ (0 < length ys) → 0 < length ys
  right_some e some =
      elim (cases_lt 0 (length ys)) [
        | inl l ↦ l
        | inr z ↦
            let more : 0 < length xs = elim some [ inl l ↦ l | inr l ↦ absurd (omega arith) ] in
            let p = head_named xs more in
            let free = all_named ys (Some p.0) (omega arith) in
            let apart = shared_zero e (Some p.0) in
            let has = p.1 in
            absurd (grind (arith, common_steps, free, apart, has))
      ]

  some_names : (bit_at (bit_and a b) 63 ≡ 1 → ⊥) → (0 < length xs) ⊎ (0 < length ys)
  some_names n =
      elim (cases_lt 0 (length xs)) [
        | inl l ↦ inl l
        | inr z ↦
            elim (cases_lt 0 (length ys)) [
              | inl l ↦ inr l
              | inr w ↦
                  let free = all_named xs None (omega arith) in
                  let also = all_named ys None (omega arith) in
                  let set = shared_named None in
                  let t : (bit_at (bit_and a b) 63 == 1) ≡ true = grind (arith, common_steps, free, also, set) in
                  absurd (n (eqb-true (bit_at (bit_and a b) 63) 1 t))
            ]
      ]

  either_joins : bit_and a b ≡ 0 → (0 < length xs) ⊎ (0 < length ys) → IsJoin xs ys (ports_in (bit_or a b)) × AreNameBits (ports_in (bit_or a b)) (bit_or a b)
  either_joins e some =
      let l = left_some e some in
      let r = right_some e some in
      let top : bit_at (bit_or a b) 63 ≡ 0 =
      unset (bit_or a b) 63 (λ k. let t = sym (either_named None) ∙ eq-eqb (bit_at (bit_or a b) 63) 1 k in absurd (grind (arith, common_steps, t, no_port_unnamed xs l, no_port_unnamed ys r))) in
      let p = head_named xs l in
      let has = p.1 in
      let t : (bit_at (bit_or a b) (min p.0 63) == 1) ≡ true = let o = either_named (Some p.0) in grind (arith, common_steps, o, has) in
      let set : bit_at (bit_or a b) (min p.0 63) ≡ 1 = eqb-true (bit_at (bit_or a b) (min p.0 63)) 1 t in
      let low : p.0 < 63 = elim (cases_lt p.0 63) [ inl k ↦ k | inr k ↦ let f : min p.0 63 ≡ 63 = omega arith in let g = ap (λ i. bit_at (bit_or a b) i) f in absurd (omega (arith, top, set, g)) ] in
      let f : min p.0 63 ≡ p.0 = omega arith in
      let here : bit_at (bit_or a b) p.0 ≡ 1 = ap (λ i. bit_at (bit_or a b) i) (sym f) ∙ set in
      let bits = ports_are_bits (bit_or a b) p.0 top low here in
      (record { some = some_in (bit_or a b) p.0 low here; joins = inr (λ q. (shared_zero e q, bits q ∙ either_named q)) }, bits)

  shared_joins : a < 2 ^ 64 → (bit_and a b ≡ 0 → ⊥) → (bit_at (bit_and a b) 63 ≡ 1 → ⊥) → IsJoin xs ys (ports_in (bit_and a b)) × AreNameBits (ports_in (bit_and a b)) (bit_and a b)
  shared_joins fits nonzero n =
      let top = unset (bit_and a b) 63 n in
      let le = and_le_l a b in
      let t = bit_at-trailing_zeros w64 (bit_and a b) (omega arith) (omega arith) in
      let z = trailing_zeros w64 (bit_and a b) in
      let low : z < 63 = elim (cases_eq z 63) [ inl k ↦ absurd (n (ap (λ i. bit_at (bit_and a b) i) (sym k) ∙ t.1)) | inr k ↦ let l = t.0 in omega (arith, l) ] in
      let bits = ports_are_bits (bit_and a b) z top low t.1 in
      (record { some = some_in (bit_and a b) z low t.1; joins = inl (λ q. bits q ∙ shared_named q) }, bits)

  -- the names of a node with several ports
  pub joined_are_bits : a < 2 ^ 64 → (bit_at (bit_and a b) 63 ≡ 1 → ⊥) → IsJoin xs ys (ports_in (joined_bits a b)) × AreNameBits (ports_in (joined_bits a b)) (joined_bits a b)
  joined_are_bits fits n =
      elim (cases_eq (bit_and a b) 0) [
        | inl zeros ↦
            let e : joined_bits a b ≡ bit_or a b = grind (arith, common_steps, zeros) in
            subst (λ m. IsJoin xs ys (ports_in m) × AreNameBits (ports_in m) m) (sym e) (either_joins zeros (some_names n))
        | inr more ↦
            let e : joined_bits a b ≡ bit_and a b = grind (arith, common_steps, more) in
            subst (λ m. IsJoin xs ys (ports_in m) × AreNameBits (ports_in m) m) (sym e) (shared_joins fits more n)
      ]
