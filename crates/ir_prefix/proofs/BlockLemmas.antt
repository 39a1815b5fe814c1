-- Blocks of numbers: those with the same leading bits.
use Rattle.std.proofs.Common.{◌≡◌, ℕ, zero, suc, ◌+◌, ◌-◌, ◌*◌, ◌/◌, ◌^◌, ◌<◌, ◌≤◌, ◌⊎◌, inl, inr, ap, sym, ◌∙◌, subst, arith}
use Rattle.std.proofs.Math.Nat.{div-div-eq-div-mul, pow-suc, mul-le-mul_left}
use Rattle.std.proofs.lemmas.Nat.{pow_pos}
use Rattle.std.proofs.lemmas.Bool.{cases_eq}

pub half_of : (x h : ℕ) → x / 2 ^ suc h ≡ (x / 2 ^ h) / 2
half_of x h = ap (λ m. x / m) (pow-suc 2 h) ∙ sym (div-div-eq-div-mul x (2 ^ h) 2)

pub half_below : (x h : ℕ) → 0 < h → x / 2 ^ h ≡ (x / 2 ^ (h - 1)) / 2
half_below x zero l = absurd (omega arith)
half_below x (suc h) l = let e : suc h - 1 ≡ h = omega arith in half_of x h ∙ ap (λ m. (x / 2 ^ m) / 2) (sym e)

pub halves : (x h i : ℕ) → 0 < h → x / 2 ^ h ≡ i → (x / 2 ^ (h - 1) ≡ 2 * i) ⊎ (x / 2 ^ (h - 1) ≡ 2 * i + 1)
halves x h i l e =
    let m = half_below x h l in
    elim (cases_eq (x / 2 ^ (h - 1)) (2 * i)) [ inl s ↦ inl s | inr d ↦ inr (omega arith) ]

pub left_inside : (x h i : ℕ) → 0 < h → x / 2 ^ (h - 1) ≡ 2 * i → x / 2 ^ h ≡ i
left_inside x h i l e = let m = half_below x h l in omega arith

pub right_inside : (x h i : ℕ) → 0 < h → x / 2 ^ (h - 1) ≡ 2 * i + 1 → x / 2 ^ h ≡ i
right_inside x h i l e = let m = half_below x h l in omega arith

-- numbers that agree in their leading bits agree in fewer of them
pub agree_above : (x y g : ℕ) (k : ℕ) → x / 2 ^ g ≡ y / 2 ^ g → x / 2 ^ (g + k) ≡ y / 2 ^ (g + k)
agree_above x y g zero e = let s : g + zero ≡ g = omega arith in subst (λ n. x / 2 ^ n ≡ y / 2 ^ n) (sym s) e
agree_above x y g (suc k) e =
    let s : g + suc k ≡ suc (g + k) = omega arith in
    let r = agree_above x y g k e in
    subst (λ n. x / 2 ^ n ≡ y / 2 ^ n) (sym s) (half_of x (g + k) ∙ ap (λ m. m / 2) r ∙ sym (half_of y (g + k)))

pub agree_higher : (x y g h : ℕ) → g ≤ h → x / 2 ^ g ≡ y / 2 ^ g → x / 2 ^ h ≡ y / 2 ^ h
agree_higher x y g h l e = let s : g + (h - g) ≡ h = omega arith in subst (λ n. x / 2 ^ n ≡ y / 2 ^ n) s (agree_above x y g (h - g) e)

-- the two halves of a block lie within what it lies within
pub power_below : (h : ℕ) → 0 < h → 2 ^ h ≡ 2 ^ (h - 1) + 2 ^ (h - 1)
power_below zero l = absurd (omega arith)
power_below (suc h) l = let e : suc h - 1 ≡ h = omega arith in let p = pow-suc 2 h in let s : 2 ^ suc h ≡ 2 ^ h + 2 ^ h = omega arith in s ∙ ap (λ m. 2 ^ m + 2 ^ m) (sym e)

product_of_halves : (i p q : ℕ) → q ≡ p + p → (2 * i + 1 + 1) * p ≡ (i + 1) * q
product_of_halves i p q e = let s : (i + 1) * q ≡ (i + 1) * (p + p) = ap (λ m. (i + 1) * m) e in omega arith

pub right_within : (i h top : ℕ) → 0 < h → (i + 1) * 2 ^ h ≤ top → (2 * i + 1 + 1) * 2 ^ (h - 1) ≤ top
right_within i h top l b = let e = product_of_halves i (2 ^ (h - 1)) (2 ^ h) (power_below h l) in omega arith

pub left_within : (i h top : ℕ) → 0 < h → (i + 1) * 2 ^ h ≤ top → (2 * i + 1) * 2 ^ (h - 1) ≤ top
left_within i h top l b = let r = right_within i h top l b in omega arith

pub index_within : (i h top : ℕ) → (i + 1) * 2 ^ h ≤ top → i < top
index_within i h top b = let p = pow_pos h in let m : (i + 1) * 1 ≤ (i + 1) * 2 ^ h = mul-le-mul_left (i + 1) p in omega arith
