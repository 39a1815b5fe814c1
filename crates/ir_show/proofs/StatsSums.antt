-- Sums over nodes and pairs of nodes.
use Rattle.std.proofs.Common.{◌≡◌, ℕ, zero, suc, ◌+◌, ◌<◌, ◌==◌, [], ◌∷◌, refl, sym, ap, ◌∙◌, subst, arith, sum_by}
use Rattle.std.specs.Prelude.{if◌then◌else◌}
use Rattle.std.specs.List.{range_with_len, fold}
use Rattle.std.proofs.lemmas.List.Sums.{fold-append}
use Rattle.ir_plan.proofs.Counting.{sum_to as added, sum_to_same as added_same, sum_to_swapped as added_swapped}
use Rattle.ir_show.specs.StatsText.{sum_of_pairs}
use Rattle.ir_show.specs.Figures.{sum_to, sum_before}
use Rattle.ir_show.proofs.PlanLines.{range_more}

-- one more summand
pub sum_more : (f : ℕ → ℕ) (n : ℕ) → sum_by f (range_with_len 0 (n + 1)) ≡ sum_by f (range_with_len 0 n) + f n
sum_more f n =
    let step : ℕ → ℕ → ℕ = λ (sum : ℕ) (x : ℕ). sum + f x in
    let last : 0 + n ≡ n = omega arith in
    ap (fold step 0) (range_more 0 n) ∙ fold-append step 0 (range_with_len 0 n) ((0 + n) ∷ []) ∙ ap (step (fold step 0 (range_with_len 0 n))) last

-- one more node, and one more destination
pub sum_to_more : (weight : ℕ → ℕ) (u d sum more : ℕ) → sum ≡ sum_to u weight d → more ≡ (if u == d then 0 else weight u) → sum + more ≡ sum_to (u + 1) weight d
sum_to_more weight u d sum more e f = let all = sum_more (λ x. if x == d then 0 else weight x) u in omega (arith, e, f, all)

pub sum_before_more : (n : ℕ) (weight : ℕ → ℕ → ℕ) (d sum more : ℕ) → sum ≡ sum_before n weight d → more ≡ sum_to n (λ u. weight u d) d → sum + more ≡ sum_before n weight (d + 1)
sum_before_more n weight d sum more e f = let all = sum_more (λ x. sum_to n (λ u. weight u x) x) d in omega (arith, e, f, all)

-- sums of what agrees on the numbers below
pub same_sums : (f g : ℕ → ℕ) (n : ℕ) → ((k : ℕ) → k < n → f k ≡ g k) → sum_by f (range_with_len 0 n) ≡ sum_by g (range_with_len 0 n)
same_sums f g zero same = refl
same_sums f g (suc n) same =
    let one : suc n ≡ n + 1 = omega arith in
    let P : ℕ → Type 0 = λ k. sum_by f (range_with_len 0 k) ≡ sum_by g (range_with_len 0 k) in
    let below = same_sums f g n (λ k h. same k (omega arith)) in
    subst P (sym one) (omega (arith, sum_more f n, sum_more g n, below, same n (omega arith)))

pub same_sum_to : (n : ℕ) (f g : ℕ → ℕ) (d : ℕ) → ((u : ℕ) → u < n → f u ≡ g u) → sum_to n f d ≡ sum_to n g d
same_sum_to n f g d same = same_sums (λ u. if u == d then 0 else f u) (λ u. if u == d then 0 else g u) n (λ u u_in. ap (λ (w : ℕ). if u == d then 0 else w) (same u u_in))

-- a sum over the numbers below
range_sum : (f : ℕ → ℕ) (n : ℕ) → sum_by f (range_with_len 0 n) ≡ added f n
range_sum f zero = refl
range_sum f (suc n) =
    let one : suc n ≡ n + 1 = omega arith in
    ap (λ (k : ℕ). sum_by f (range_with_len 0 k)) one ∙ sum_more f n ∙ ap (λ (sum : ℕ). sum + f n) (range_sum f n)

-- a sum of sums over the numbers below
square_sum : (f : ℕ → ℕ → ℕ) (n : ℕ) → sum_by (λ i. sum_by (f i) (range_with_len 0 n)) (range_with_len 0 n) ≡ added (λ i. added (f i) n) n
square_sum f n =
    range_sum (λ i. sum_by (f i) (range_with_len 0 n)) n ∙ added_same (λ i. sum_by (f i) (range_with_len 0 n)) (λ i. added (f i) n) n (λ i i_in. range_sum (f i) n)

-- by destination first, or by the node that the walk begins with
pub sum_by_destinations : (n : ℕ) (weight : ℕ → ℕ → ℕ) → sum_before n weight n ≡ sum_of_pairs n weight
sum_by_destinations n weight =
    let f : ℕ → ℕ → ℕ = λ u d. if u == d then 0 else weight u d in
    square_sum (λ d u. f u d) n ∙ sym (added_swapped f n n) ∙ sym (square_sum f n)
