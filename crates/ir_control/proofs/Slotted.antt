-- Each thing comes into the slot of its number, which is empty.
use Rattle.std.specs.Prelude.{◌≡◌, ℕ, ◌+◌, ◌<◌, ◌≤◌, Bool, true, false, List, Option, Some, None, cond, sum_by, length, slice_index_or, slice_set, ltb, eqb}
use Rattle.std.proofs.Common.{refl, arith, ap, ◌∙◌, subst, sym, eq-eqb}
use Rattle.std.proofs.lemmas.Bool.{ne_eqb, eqb-false, eqb-true, ltb-true}
use Rattle.std.proofs.lemmas.List.{get_or-set_same, get_or-set_other}
use Rattle.std.proofs.lemmas.List.Sums.{sum_by-set, get_or-le-sum_by}
use Rattle.std.proofs.lemmas.Option.{same_Some}
use Rattle.ir_control.specs.Slots.{slot_weight, hit, once, IsAt, AllAt, AllIn}
use Rattle.ir_control.proofs.Sums.{sum_of_none}

at_most_one : (b : Bool) → cond b 1 0 ≤ 1
at_most_one true = omega arith
at_most_one false = omega arith

positive_is_below : (i m : ℕ) → 0 < once m i → i < m
positive_is_below i m h = go (ltb i m) refl h where
  go : (b : Bool) → ltb i m ≡ b → 0 < cond b 1 0 → i < m
  go true e h = ltb-true i m e
  go false e h = absurd (omega (arith, h))

module _ {X : Type 0} (key : X → ℕ) where
  pub counts_own : (x : X) (i : ℕ) → key x ≡ i → hit key i x ≡ 1
  counts_own x i e = ap (λ b. cond b 1 0) (eq-eqb (key x) i e)

  pub counts_no_other : (x : X) (i : ℕ) → (key x ≡ i → ⊥) → hit key i x ≡ 0
  counts_no_other x i e = ap (λ b. cond b 1 0) (ne_eqb (key x) i e)

  other_counts : (slot : Option X) (i k : ℕ) → IsAt key k slot → (k ≡ i → ⊥) → slot_weight (hit key i) slot ≡ 0
  other_counts None i k at ne = refl
  other_counts (Some x) i k at ne = counts_no_other x i (λ e. ne (sym at ∙ e))

  empty_or_one : (slot : Option X) (i : ℕ) → IsAt key i slot → slot_weight (hit key i) slot ≡ 0 → slot ≡ None
  empty_or_one None i at zero = refl
  empty_or_one (Some x) i at zero = absurd (let one_is : hit key i x ≡ 1 = counts_own x i at in omega (arith, zero, one_is))

  -- with one more in hand, no number is met twice
  abbrev pub Fits : ℕ → List (Option X) → X → Type 0
  Fits m slots x = (i : ℕ) → sum_by (slot_weight (hit key i)) slots + hit key i x ≤ once m i

  pub below : (m : ℕ) (slots : List (Option X)) (x : X) → Fits m slots x → key x < m
  below m slots x fits =
      let most = fits (key x) in
      let own : hit key (key x) x ≡ 1 = counts_own x (key x) refl in
      positive_is_below (key x) m (omega (arith, most, own))

  pub free : (m : ℕ) (slots : List (Option X)) (x : X) → length slots ≡ m → AllAt key slots → Fits m slots x → slice_index_or slots (key x) None ≡ None
  free m slots x len at fits =
      let most = fits (key x) in
      let own : hit key (key x) x ≡ 1 = counts_own x (key x) refl in
      let one_most = at_most_one (ltb (key x) m) in
      let lt : key x < m = below m slots x fits in
      let part = get_or-le-sum_by (slot_weight (hit key (key x))) slots (key x) None (omega (arith, lt, len)) in
      let nothing : slot_weight (hit key (key x)) (slice_index_or slots (key x) None) ≡ 0 = omega (arith, most, own, one_most, part) in
      empty_or_one (slice_index_or slots (key x) None) (key x) (at (key x)) nothing

  own_after : (slots : List (Option X)) (x : X) (k : ℕ) → key x < length slots → IsAt key k (slice_index_or slots k None)
      → IsAt key k (slice_index_or (slice_set slots (key x) (Some x)) k None)
  own_after slots x k within was = go (eqb k (key x)) refl where
    go : (b : Bool) → eqb k (key x) ≡ b → IsAt key k (slice_index_or (slice_set slots (key x) (Some x)) k None)
    go true e =
        let same : k ≡ key x = eqb-true k (key x) e in
        let read : slice_index_or (slice_set slots (key x) (Some x)) (key x) None ≡ Some x = get_or-set_same slots (key x) (Some x) None within in
        subst (λ (j : ℕ). IsAt key j (slice_index_or (slice_set slots (key x) (Some x)) j None)) (sym same)
        (subst (λ (slot : Option X). IsAt key (key x) slot) (sym read) refl)
    go false e =
        let read : slice_index_or (slice_set slots (key x) (Some x)) k None ≡ slice_index_or slots k None = get_or-set_other slots (key x) k (Some x) None (eqb-false k (key x) e) in
        subst (λ (slot : Option X). IsAt key k slot) (sym read) was

  pub all_at_after : (m : ℕ) (slots : List (Option X)) (x : X) → length slots ≡ m → AllAt key slots → Fits m slots x → AllAt key (slice_set slots (key x) (Some x))
  all_at_after m slots x len at fits = λ k. (let lt = below m slots x fits in own_after slots x k (omega (arith, lt, len)) (at k))

  pub weighs_more : (m : ℕ) (slots : List (Option X)) (x : X) → length slots ≡ m → AllAt key slots → Fits m slots x
      → (w : X → ℕ) → sum_by (slot_weight w) (slice_set slots (key x) (Some x)) ≡ sum_by (slot_weight w) slots + w x
  weighs_more m slots x len at fits w =
      let lt = below m slots x fits in
      let put = sum_by-set (slot_weight w) slots (key x) (Some x) None (omega (arith, lt, len)) in
      let was : slot_weight w (slice_index_or slots (key x) None) ≡ 0 = ap (slot_weight w) (free m slots x len at fits) in
      omega (arith, put, was)

  none_has : (i : ℕ) (slots : List (Option X)) → AllAt key slots → slice_index_or slots i None ≡ None
      → (k : ℕ) → slot_weight (hit key i) (slice_index_or slots k None) ≡ 0
  none_has i slots own none k = go (eqb k i) refl where
    go : (b : Bool) → eqb k i ≡ b → slot_weight (hit key i) (slice_index_or slots k None) ≡ 0
    go true e = ap (λ j. slot_weight (hit key i) (slice_index_or slots j None)) (eqb-true k i e) ∙ ap (slot_weight (hit key i)) none
    go false e = other_counts (slice_index_or slots k None) i k (own k) (eqb-false k i e)

  -- a number that is met once is in its slot
  pub full_at : (slots : List (Option X)) → AllAt key slots → (i : ℕ) → 0 < sum_by (slot_weight (hit key i)) slots
      → (x : X) × (slice_index_or slots i None ≡ Some x) × (key x ≡ i)
  full_at slots at i some = go (slice_index_or slots i None) refl where
    go : (slot : Option X) → slice_index_or slots i None ≡ slot → (x : X) × (slice_index_or slots i None ≡ Some x) × (key x ≡ i)
    go None e = absurd (let zero = sum_of_none (slot_weight (hit key i)) slots None (λ k _. none_has i slots at e k) in omega (arith, zero, some))
    go (Some x) e = (x, e, subst (λ (slot : Option X). IsAt key i slot) e (at i))

pub all_in_after : {X : Type 0} (P : X → Type 0) (slots : List (Option X)) (i : ℕ) (x : X) → i < length slots → AllIn P slots → P x → AllIn P (slice_set slots i (Some x))
all_in_after P slots i x within all here = λ k y got. go k y got (eqb k i) refl where
  go : (k : ℕ) (y : _) → slice_index_or (slice_set slots i (Some x)) k None ≡ Some y → (b : Bool) → eqb k i ≡ b → P y
  go k y got true e =
      let read = ap (λ j. slice_index_or (slice_set slots i (Some x)) j None) (eqb-true k i e) ∙ get_or-set_same slots i (Some x) None within in
      let same : x ≡ y = same_Some x y (sym read ∙ got) in
      subst P same here
  go k y got false e = all k y (sym (get_or-set_other slots i k (Some x) None (eqb-false k i e)) ∙ got)
