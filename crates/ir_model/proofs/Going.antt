-- Going round the labels, one after the other.
use Rattle.std.proofs.Common.{◌≡◌, ℕ, zero, suc, ◌+◌, ◌-◌, ◌<◌, ◌≤◌, ◌≢◌, ap, ◌∙◌, inl, inr, ◌⊎◌, arith}
use Rattle.std.proofs.lemmas.Bool.{cases_eq, cases_lt}
use Rattle.std.proofs.lemmas.Bool.Decides.{nat_tests}
use Rattle.ir_model.specs.Interval.{InInterval}
use Rattle.ir_model.specs.Compiled.{label_after, label_before}
use Rattle.ir_model.specs.Choices.{label_from}
use Rattle.ir_model.proofs.Round.{after_is_label}

pub before_after : (n d : ℕ) → d < n → label_before n (label_after n d) ≡ d
before_after n d h = elim (cases_eq (d + 1) n) [ inl e ↦ grind (arith, nat_tests) | inr ne ↦ grind (arith, nat_tests) ]

pub after_inside : (n d : ℕ) → d + 1 < n → label_after n d ≡ d + 1
after_inside n d h = grind (arith, nat_tests)

pub after_last : (n d : ℕ) → d + 1 ≡ n → label_after n d ≡ 0
after_last n d h = grind (arith, nat_tests)

pub from_is_label : (n s i : ℕ) → s < n → label_from n s i < n
from_is_label n s zero h = h
from_is_label n s (suc i) h = after_is_label n (label_from n s i) (from_is_label n s i h)

-- going i places and then j places
pub from_from : (n s i j : ℕ) → label_from n (label_from n s i) j ≡ label_from n s (j + i)
from_from n s i zero = let e : i ≡ 0 + i = omega arith in ap (label_from n s) e
from_from n s i (suc j) = let e : suc (j + i) ≡ suc j + i = omega arith in ap (label_after n) (from_from n s i j) ∙ ap (label_from n s) e

-- one place further back
pub from_before : (n s i : ℕ) → s < n → label_before n (label_from n s (suc i)) ≡ label_from n s i
from_before n s i h = before_after n (label_from n s i) (from_is_label n s i h)

-- where one is: on the way to the last label, or after the seam
pub from_where : (n s i : ℕ) → s < n → i ≤ n → ((s + i < n) × (label_from n s i ≡ s + i)) ⊎ ((n ≤ s + i) × (label_from n s i + n ≡ s + i))
from_where n s zero h l = inl (omega arith, omega arith)
from_where n s (suc i) h l =
    elim (from_where n s i h (omega arith)) [
      | inl w ↦
          elim (cases_lt (s + suc i) n) [
            | inl inside ↦ inl (inside, ap (label_after n) w.1 ∙ after_inside n (s + i) (omega arith) ∙ omega arith)
            | inr past ↦ inr (past, let e = ap (label_after n) w.1 ∙ after_last n (s + i) (omega (arith, w.0)) in omega (arith, e, w.0))
          ]
      | inr w ↦ inr (omega (arith, w.0), let e = after_inside n (label_from n s i) (omega (arith, w.1)) in omega (arith, e, w.1))
    ]

-- a whole round leads back
pub from_round : (n s : ℕ) → s < n → label_from n s n ≡ s
from_round n s h = elim (from_where n s n h (omega arith)) [ inl w ↦ absurd (omega (arith, w.0)) | inr w ↦ omega (arith, w.1) ]

-- in less than one round no label comes twice
pub from_differs : (n s i j : ℕ) → s < n → i < j → j < n → label_from n s i ≢ label_from n s j
from_differs n s i j h l b = λ e.
    elim (from_where n s i h (omega arith)) [
      | inl v ↦ elim (from_where n s j h (omega arith)) [ inl w ↦ omega (arith, v.0, v.1, w.0, w.1, e) | inr w ↦ omega (arith, v.0, v.1, w.0, w.1, e) ]
      | inr v ↦ elim (from_where n s j h (omega arith)) [ inl w ↦ omega (arith, v.0, v.1, w.0, w.1, e) | inr w ↦ omega (arith, v.0, v.1, w.0, w.1, e) ]
    ]

-- the place where a label comes
pub place_from : (n s d : ℕ) → s < n → d < n → (i : ℕ) × (i < n) × (label_from n s i ≡ d)
place_from n s d h l =
    elim (cases_lt d s) [
      | inl below ↦
          let i = d + n - s in
          let b : i < n = omega arith in
          (i, b, elim (from_where n s i h (omega arith)) [ inl w ↦ omega (arith, w.0, w.1) | inr w ↦ omega (arith, w.0, w.1) ])
      | inr above ↦
          let i = d - s in
          let b : i < n = omega arith in
          (i, b, elim (from_where n s i h (omega arith)) [ inl w ↦ omega (arith, w.0, w.1) | inr w ↦ omega (arith, w.0, w.1) ])
    ]

-- the same of three numbers: the places i < j and k, and the labels a, b, d there
module _ (n s i j k a b d : ℕ) (h : s < n) (ij : i < j) (jn : j ≤ n) (kn : k < n)
    (at_i : ((s + i < n) × (a ≡ s + i)) ⊎ ((n ≤ s + i) × (a + n ≡ s + i)))
    (at_j : ((s + j < n) × (b ≡ s + j)) ⊎ ((n ≤ s + j) × (b + n ≡ s + j)))
    (at_k : ((s + k < n) × (d ≡ s + k)) ⊎ ((n ≤ s + k) × (d + n ≡ s + k))) where
  places_in : i ≤ k → k < j → InInterval n a b d
  places_in l u =
      elim at_i [
        | inl x ↦ elim at_j [
          | inl y ↦ elim at_k [ inl z ↦ grind (arith, x, y, z) | inr z ↦ grind (arith, x, y, z) ]
          | inr y ↦ elim at_k [ inl z ↦ grind (arith, x, y, z) | inr z ↦ grind (arith, x, y, z) ]
        ]
        | inr x ↦ elim at_j [
          | inl y ↦ elim at_k [ inl z ↦ grind (arith, x, y, z) | inr z ↦ grind (arith, x, y, z) ]
          | inr y ↦ elim at_k [ inl z ↦ grind (arith, x, y, z) | inr z ↦ grind (arith, x, y, z) ]
        ]
      ]

  in_places : InInterval n a b d → (i ≤ k) × (k < j)
  in_places has =
      elim at_i [
        | inl x ↦ elim at_j [
          | inl y ↦ elim at_k [ inl z ↦ grind (arith, x, y, z) | inr z ↦ grind (arith, x, y, z) ]
          | inr y ↦ elim at_k [ inl z ↦ grind (arith, x, y, z) | inr z ↦ grind (arith, x, y, z) ]
        ]
        | inr x ↦ elim at_j [
          | inl y ↦ elim at_k [ inl z ↦ grind (arith, x, y, z) | inr z ↦ grind (arith, x, y, z) ]
          | inr y ↦ elim at_k [ inl z ↦ grind (arith, x, y, z) | inr z ↦ grind (arith, x, y, z) ]
        ]
      ]

-- the interval from one place to a later one has the labels of the places between, and no others
module _ (n s i j k : ℕ) (h : s < n) (ij : i < j) (jn : j ≤ n) (kn : k < n) where
  pub between_in : i ≤ k → k < j → InInterval n (label_from n s i) (label_from n s j) (label_from n s k)
  between_in =
      places_in n s i j k (label_from n s i) (label_from n s j) (label_from n s k) h ij jn kn
      (from_where n s i h (omega arith)) (from_where n s j h jn) (from_where n s k h (omega arith))

  pub in_between : InInterval n (label_from n s i) (label_from n s j) (label_from n s k) → (i ≤ k) × (k < j)
  in_between =
      in_places n s i j k (label_from n s i) (label_from n s j) (label_from n s k) h ij jn kn
      (from_where n s i h (omega arith)) (from_where n s j h jn) (from_where n s k h (omega arith))

-- the label at a place, by sums
pub from_inside : (n s i : ℕ) → s < n → i ≤ n → s + i < n → label_from n s i ≡ s + i
from_inside n s i h l inside = elim (from_where n s i h l) [ inl w ↦ w.1 | inr w ↦ omega (arith, w.0) ]

pub from_past : (n s i : ℕ) → s < n → i ≤ n → n ≤ s + i → label_from n s i + n ≡ s + i
from_past n s i h l past = elim (from_where n s i h l) [ inl w ↦ omega (arith, w.0) | inr w ↦ w.1 ]
