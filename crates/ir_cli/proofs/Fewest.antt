-- The least number of landmarks of which four times the square is at least a number of nodes.
use Rattle.std.proofs.Common.{◌≡◌, ◌≤◌, ◌<◌, ◌+◌, ◌*◌, ℕ, zero, suc, Bool, true, false, cond, ap, inl, inr, ◌⊎◌, arith, nat_le, mul-le-mul, mul-le-mul_right, mul-le-mul_left}
use Rattle.std.proofs.lemmas.Bool.{le-leb, lt-leb, cases_lt}
use Rattle.ir_cli.specs.Kinds.{too_few, landmarks_for}

-- the first k of the counts above none are too few, and so many tries are left
pub record AreTooFew (n k : ℕ) : Type 0 where
  pub tries : ℕ
  pub left : tries + k ≡ n
  pub same : too_few n 0 n ≡ k + too_few tries k n
  pub less : 0 < k → 4 * k * k < n

pub none_yet : (n : ℕ) → AreTooFew n 0
none_yet n = record { tries = n; left = omega arith; same = omega arith; less = λ some. absurd (omega (arith, some)) }

-- four times a square is at least the number itself
four_squares : (k : ℕ) → k ≤ 4 * k * k
four_squares zero = omega arith
four_squares (suc k) =
    let once : 1 ≤ 4 * suc k = omega arith in
    let more : 1 * suc k ≤ 4 * suc k * suc k = mul-le-mul_right (suc k) once in
    omega (arith, more)

-- one more is too few
pub one_more : (n k : ℕ) → AreTooFew n k → 4 * suc k * suc k < n → AreTooFew n (suc k)
one_more n k is less = by is.tries is.left is.same
  where
    few : nat_le n (4 * suc k * suc k) ≡ false
    few = lt-leb n (4 * suc k * suc k) less

    by : (tries : ℕ) → tries + k ≡ n → too_few n 0 n ≡ k + too_few tries k n → AreTooFew n (suc k)
    by zero left same = (let over = four_squares (suc k) in absurd (omega (arith, left, less, over)))
    by (suc tries) left same =
        let step : too_few (suc tries) k n ≡ suc (too_few tries (suc k) n) = ap (λ (b : Bool). cond b 0 (suc (too_few tries (suc k) n))) few in
        record { tries = tries; left = omega (arith, left); same = omega (arith, same, step); less = λ some. less }

-- the next one is enough
pub next_enough : (n k : ℕ) → AreTooFew n k → n ≤ 4 * suc k * suc k → landmarks_for n ≡ suc k
next_enough n k is fits = by is.tries is.same
  where
    many : nat_le n (4 * suc k * suc k) ≡ true
    many = le-leb n (4 * suc k * suc k) fits

    by : (tries : ℕ) → too_few n 0 n ≡ k + too_few tries k n → landmarks_for n ≡ suc k
    by zero same = omega (arith, same)
    by (suc tries) same =
        let step : too_few (suc tries) k n ≡ 0 = ap (λ (b : Bool). cond b 0 (suc (too_few tries (suc k) n))) many in
        omega (arith, same, step)

-- what is enough is above what is too few
pub above_too_few : (n k : ℕ) → AreTooFew n k → (j : ℕ) → 0 < j → n ≤ 4 * j * j → suc k ≤ j
above_too_few n k is j some fits = by (cases_lt k j)
  where
    by : (k < j) ⊎ (j ≤ k) → suc k ≤ j
    by (inl above) = above
    by (inr below) =
        let squares : 4 * j * j ≤ 4 * k * k = mul-le-mul (mul-le-mul_left 4 below) below in
        let less = is.less (omega (arith, some, below)) in
        absurd (omega (arith, squares, less, fits))

-- the counts that are too few for fewer than 2^16 nodes are small
pub small_count : (n k : ℕ) → AreTooFew n k → n < 65536 → k < 16384
small_count n zero is small = omega arith
small_count n (suc k) is small =
    let once : 1 ≤ suc k = omega arith in
    let more : 4 * suc k * 1 ≤ 4 * suc k * suc k = mul-le-mul_left (4 * suc k) once in
    let less = is.less (omega arith) in
    omega (arith, more, less, small)
