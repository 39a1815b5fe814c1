-- Half of what is left at each step.
use Rattle.std.proofs.Common.{◌≡◌, ℕ, ◌+◌, ◌-◌, ◌*◌, ◌^◌, ◌<◌, ◌≤◌, suc, subst, arith, add-one, inl, inr, ◌⊎◌}
use Rattle.std.specs.Prelude.{List, length, slice_index, ◌/◌}
use Rattle.std.proofs.lemmas.List.{length-map}
use Rattle.ir_model.specs.Row.{Start, labels, IsAscending, IsPlaceOf}
use Rattle.ir_lookup.specs.Halving.{Halves}
use Rattle.ir_model.proofs.Rows.{rises_weakly}
use Rattle.std.proofs.Math.Nat.{pow-succ', mul-le-mul_right}
use Rattle.std.proofs.Math.Pow.{pow_mono}
use Rattle.std.proofs.lemmas.Bool.{cases_lt}

twice : (c : ℕ) → 2 ^ (c + 1) ≡ 2 * 2 ^ c
twice c = rw add-one (pow-succ' 2 c)

pub half_left : (s t c len : ℕ) → 2 * t ≤ s → s * 2 ^ c ≤ len → t * 2 ^ (c + 1) ≤ len
half_left s t c len h fits = rw (twice c) (grind (arith, mul-le-mul_right (2 ^ c) h))

pub one_left : (s c len : ℕ) → 0 < s → s * 2 ^ c ≤ len → 2 ^ c ≤ len
one_left s c len h fits = omega (arith, mul-le-mul_right (2 ^ c) h)

pub one_more : (s c len : ℕ) → 0 < s → s * 2 ^ c ≤ len → 2 ^ (c + 1) ≤ 2 * len
one_more s c len h fits = rw (twice c) (omega (arith, one_left s c len h fits))

le_two : (s t : ℕ) → s ≤ 2 * t + 2 → s + 2 ≤ 2 * (t + 2)
le_two s t h = omega arith

-- where s are left, of which a comparison leaves t, that is half of s or one less
pub half_needed : (s t c len : ℕ) → s ≤ 2 * t + 2 → len + 2 ≤ (s + 2) * 2 ^ c → len + 2 ≤ (t + 2) * 2 ^ (c + 1)
half_needed s t c len h fits = rw (twice c) (grind (arith, mul-le-mul_right (2 ^ c) (le_two s t h)))

pub few_steps : (c len : ℕ) → 2 ^ c ≤ len → len < 2 ^ 64 → c < 64
few_steps c len h small = elim (cases_lt c 64) [ inl l ↦ l | inr g ↦ absurd (omega (arith, pow_mono g)) ]

-- the starts before `low` are not above d, those from `high` on are, and each of the comparisons left half
pub record IsHalved (row : List Start) (d low high count : ℕ) : Type 0 where
  pub ordered : low ≤ high
  pub within : high ≤ length row
  pub below : (k : ℕ) → k < low → slice_index (labels row) k ≤ d
  pub above : (k : ℕ) → high ≤ k → k < length row → d < slice_index (labels row) k
  pub halved : (high - low) * 2 ^ count ≤ length row
  pub counted : 2 ^ count ≤ 2 * length row
  pub needed : length row + 2 ≤ (high - low + 2) * 2 ^ count
  pub compared : (n : ℕ) → Halves (labels row) d low high n → Halves (labels row) d 0 (length row) (n + count)

-- before the first comparison all are left
pub all_left : (row : List Start) (d : ℕ) → 0 < length row → IsHalved row d 0 (length row) 0
all_left row d some = record {
  ordered = omega arith;
  within = omega arith;
  below = λ k m. absurd (omega arith);
  above = λ k m i. absurd (omega arith);
  halved = omega arith;
  counted = omega arith;
  needed = omega arith;
  compared = λ n rest. let same : n ≡ n + 0 = omega arith in subst (λ k. Halves (labels row) d 0 (length row) k) same rest;
}

module _ (row : List Start) (up : IsAscending row) (d low high count middle : ℕ) (h : IsHalved row d low high count) (open_still : low < high) (is : middle ≡ low + (high - low) / 2) where
  one_compared : (n : ℕ) → Halves (labels row) d 0 (length row) (suc n + count) → Halves (labels row) d 0 (length row) (n + (count + 1))
  one_compared n all = let same : suc n + count ≡ n + (count + 1) = omega arith in subst (λ k. Halves (labels row) d 0 (length row) k) same all

  pub lower_half : d < slice_index (labels row) middle → IsHalved row d low middle (count + 1)
  lower_half up_there =
      let w = h.within in
      let l = length-map row (λ (s : Start). s.label) in
      record {
        ordered = omega arith;
        within = omega arith;
        below = h.below;
        above = λ k m i. let r = rises_weakly (labels row) up middle k m (omega arith) in omega arith;
        halved = half_left (high - low) (middle - low) count (length row) (omega arith) h.halved;
        counted = one_more (high - low) count (length row) (omega arith) h.halved;
        needed = half_needed (high - low) (middle - low) count (length row) (omega arith) h.needed;
        compared = λ n rest. one_compared n (h.compared (suc n) (middle, open_still, is, inl (up_there, rest)));
      }

  pub upper_half : slice_index (labels row) middle ≤ d → IsHalved row d (middle + 1) high (count + 1)
  upper_half down_there =
      let w = h.within in
      let l = length-map row (λ (s : Start). s.label) in
      record {
        ordered = omega arith;
        within = omega arith;
        below = λ k m. let r = rises_weakly (labels row) up k middle (omega arith) (omega arith) in omega arith;
        above = h.above;
        halved = half_left (high - low) (high - (middle + 1)) count (length row) (omega arith) h.halved;
        counted = one_more (high - low) count (length row) (omega arith) h.halved;
        needed = half_needed (high - low) (high - (middle + 1)) count (length row) (omega arith) h.needed;
        compared = λ n rest. one_compared n (h.compared (suc n) (middle, open_still, is, inr (down_there, rest)));
      }

-- where nothing is left, the comparisons are those of halving
pub all_compared : (row : List Start) (d low high count : ℕ) → IsHalved row d low high count → high ≤ low → Halves (labels row) d 0 (length row) count
all_compared row d low high count h done = let same : 0 + count ≡ count = omega arith in subst (λ k. Halves (labels row) d 0 (length row) k) same (h.compared 0 done)

-- and they are as many as the length has binary digits, or one less
pub count_told : (row : List Start) (d low high count : ℕ) → IsHalved row d low high count → high ≤ low → (2 ^ count ≤ 2 * length row) × (length row + 1 < 2 * 2 ^ count)
count_told row d low high count h done =
    let same : high - low + 2 ≡ 2 = omega arith in
    let needed : length row + 2 ≤ 2 * 2 ^ count = subst (λ k. length row + 2 ≤ k * 2 ^ count) same h.needed in
    (h.counted, omega arith)

-- how many comparisons were made, of a length that fits
pub few_compared : (row : List Start) (d low high count : ℕ) → IsHalved row d low high count → low < high → length row < 2 ^ 64 → count < 2 ^ 31
few_compared row d low high count h open_still small =
    let steps = few_steps count (length row) (one_left (high - low) count (length row) (omega arith) h.halved) small in
    omega arith

-- where nothing is left, the place is known
pub place_found : (row : List Start) → 0 < length row → (d low high count place : ℕ) → IsHalved row d low high count → high ≤ low
    → ((low ≡ 0) × (place ≡ length row - 1)) ⊎ ((0 < low) × (place ≡ low - 1)) → IsPlaceOf (labels row) d place
place_found row full d low high count place h done which =
    let l = length-map row (λ (s : Start). s.label) in
    let o = h.ordered in
    let w = h.within in
    elim which [
      | inl first ↦
          let f = first.1 in
          let z = h.above 0 (omega (arith, first.0)) full in
          record { below = omega arith; from = inr (z, omega arith); to = λ t. absurd (omega arith) }
      | inr later ↦
          let f = later.1 in
          let p = later.0 in
          let b = h.below place (omega arith) in
          record { below = omega arith; from = inl b; to = λ t. h.above (place + 1) (omega arith) (omega arith) }
    ]
