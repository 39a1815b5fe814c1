-- Sums over the numbers below a bound, and how many of them are in a list.
use Rattle.std.proofs.Common.{◌≡◌, ◌≢◌, ℕ, zero, suc, ◌+◌, ◌<◌, ◌≤◌, ◌==◌, cond, List, [], ◌∷◌, length, take, get_or, refl, ap, sym, ◌∙◌, subst, inl, inr, arith, add-one, eq-eqb}
use Rattle.std.specs.Prelude.{Contains, sum_by}
use Rattle.std.proofs.lemmas.Bool.{cases_eq, ne_eqb}
use Rattle.std.proofs.lemmas.List.{get_or_default}
use Rattle.std.proofs.lemmas.List.Sums.{sum_by_more}

-- f 0 + .. + f (n - 1)
abbrev pub sum_to : (ℕ → ℕ) → ℕ → ℕ
sum_to f zero = 0
sum_to f (suc n) = sum_to f n + f n

pub sum_to_same : (f g : ℕ → ℕ) (n : ℕ) → ((i : ℕ) → i < n → f i ≡ g i) → sum_to f n ≡ sum_to g n
sum_to_same f g zero same = refl
sum_to_same f g (suc n) same = rw (sum_to_same f g n (λ i h. same i (omega arith)), same n (omega arith)) refl

pub sum_to_both : (f g : ℕ → ℕ) (n : ℕ) → sum_to (λ i. f i + g i) n ≡ sum_to f n + sum_to g n
sum_to_both f g zero = refl
sum_to_both f g (suc n) = omega (arith, sum_to_both f g n)

pub sum_to_zero : (f : ℕ → ℕ) (n : ℕ) → ((i : ℕ) → i < n → f i ≡ 0) → sum_to f n ≡ 0
sum_to_zero f zero none = refl
sum_to_zero f (suc n) none = omega (arith, sum_to_zero f n (λ i h. none i (omega arith)), none n (omega arith))

-- where all terms but one are 0, the sum is that one
pub sum_to_one : (f : ℕ → ℕ) (n k : ℕ) → k < n → ((i : ℕ) → i < n → i ≢ k → f i ≡ 0) → sum_to f n ≡ f k
sum_to_one f zero k h none = absurd (omega arith)
sum_to_one f (suc n) k h none =
    elim (cases_eq k n) [
      | inl e ↦ rw e (omega (arith, sum_to_zero f n (λ i l. none i (omega arith) (omega arith))))
      | inr ne ↦ omega (arith, sum_to_one f n k (omega arith) (λ i l d. none i (omega arith) d), none n (omega arith) (λ d. ne (sym d)))
    ]

pub sum_to_swapped : (g : ℕ → ℕ → ℕ) (m n : ℕ) → sum_to (λ i. sum_to (g i) n) m ≡ sum_to (λ j. sum_to (λ i. g i j) m) n
sum_to_swapped g zero n = sym (sum_to_zero (λ j. 0) n (λ j h. refl))
sum_to_swapped g (suc m) n = ap (λ (x : ℕ). x + sum_to (g m) n) (sum_to_swapped g m n) ∙ sym (sum_to_both (λ j. sum_to (λ i. g i j) m) (g m) n)

-- a sum over a list, by place
pub sum_by_places : {X : Type 0} (f : X → ℕ) (xs : List X) (d : X) (n : ℕ) → n ≤ length xs → sum_by f (take n xs) ≡ sum_to (λ i. f (get_or xs i d)) n
sum_by_places f xs d zero h = refl
sum_by_places f xs d (suc n) h =
    let more = sum_by_more f xs n d (omega arith) in
    (rw add-one at more) ∙ ap (λ (x : ℕ). x + f (get_or xs n d)) (sum_by_places f xs d n (omega arith))

-- 1 where the number is in the list, else 0
abbrev pub stands_in : List ℕ → ℕ → ℕ
stands_in [] d = 0
stands_in (x ∷ xs) d = cond (x == d) 1 (stands_in xs d)

later : (x : ℕ) (xs : List ℕ) (d k : ℕ) → k < length (x ∷ xs) → get_or (x ∷ xs) k d ≡ d → x ≢ d → Contains xs d
later x xs d zero h e ne = absurd (ne e)
later x xs d (suc k) h e ne = (k, omega arith, e)

pub stands_in_yes : (xs : List ℕ) (d : ℕ) → Contains xs d → stands_in xs d ≡ 1
stands_in_yes [] d w = absurd (omega (arith, w.1))
stands_in_yes (x ∷ xs) d w =
    elim (cases_eq x d) [
      | inl e ↦ rw (eq-eqb x d e) refl
      | inr ne ↦ rw (ne_eqb x d ne) (stands_in_yes xs d (later x xs d w.0 w.1 w.2 ne))
    ]

pub stands_in_no : (xs : List ℕ) (d : ℕ) → (Contains xs d → ⊥) → stands_in xs d ≡ 0
stands_in_no [] d out = refl
stands_in_no (x ∷ xs) d out =
    elim (cases_eq x d) [
      | inl e ↦ absurd (out (0, omega arith, e))
      | inr ne ↦ rw (ne_eqb x d ne) (stands_in_no xs d (λ w. out (suc w.0, omega (arith, w.1), w.2)))
    ]

-- a number is first or later, where the first is not there again
first_or_later : (x : ℕ) (xs : List ℕ) (d : ℕ) → (Contains xs x → ⊥) → stands_in (x ∷ xs) d ≡ cond (x == d) 1 0 + stands_in xs d
first_or_later x xs d out =
    elim (cases_eq x d) [
      | inl e ↦ rw (eq-eqb x d e) (let none = stands_in_no xs d (subst (λ (y : ℕ). Contains xs y → ⊥) e out) in omega arith)
      | inr ne ↦ rw (ne_eqb x d ne) (omega arith)
    ]

-- different numbers below n, counted
pub length_counted : (xs : List ℕ) (n : ℕ) → ((i j : ℕ) → i < j → j < length xs → get_or xs i 0 ≢ get_or xs j 0) → ((k : ℕ) → k < length xs → get_or xs k 0 < n)
    → length xs ≡ sum_to (stands_in xs) n
length_counted [] n apart below = sym (sum_to_zero (λ d. 0) n (λ i h. refl))
length_counted (x ∷ xs) n apart below =
    let out : Contains xs x → ⊥ = λ w. apart 0 (suc w.0) (omega arith) (omega (arith, w.1)) (sym (get_or_default xs w.0 0 x w.1 ∙ w.2)) in
    let here : sum_to (λ d. cond (x == d) 1 0) n ≡ 1 =
    sum_to_one (λ d. cond (x == d) 1 0) n x (below 0 (omega arith)) (λ i h ne. rw (ne_eqb x i (λ e. ne (sym e))) refl) ∙ rw (eq-eqb x x refl) refl in
    let rest = length_counted xs n (λ i j l h. apart (suc i) (suc j) (omega arith) (omega arith)) (λ k h. below (suc k) (omega arith)) in
    let parts = sum_to_same (stands_in (x ∷ xs)) (λ d. cond (x == d) 1 0 + stands_in xs d) n (λ d h. first_or_later x xs d out) in
    let split = sum_to_both (λ d. cond (x == d) 1 0) (stands_in xs) n in
    omega arith

sum_to_ones : (n : ℕ) → sum_to (λ i. 1) n ≡ n
sum_to_ones zero = refl
sum_to_ones (suc n) = omega (arith, sum_to_ones n)

one_of_two : (x : ℕ) → cond (x == 0) 0 1 + cond (x == 0) 1 0 ≡ 1
one_of_two x = elim (cases_eq x 0) [ inl e ↦ rw (eq-eqb x 0 e) refl | inr ne ↦ rw (ne_eqb x 0 ne) refl ]

-- all but one of n numbers are not 0
pub all_but_one : (f : ℕ → ℕ) (n k : ℕ) → k < n → f k ≡ 0 → ((i : ℕ) → i < n → i ≢ k → f i ≢ 0) → sum_to (λ i. cond (f i == 0) 0 1) n + 1 ≡ n
all_but_one f n k h at_k others =
    let one : sum_to (λ i. cond (f i == 0) 1 0) n ≡ 1 =
    sum_to_one (λ i. cond (f i == 0) 1 0) n k h (λ i l ne. rw (ne_eqb (f i) 0 (others i l ne)) refl) ∙ rw (eq-eqb (f k) 0 at_k) refl in
    let both = sum_to_both (λ i. cond (f i == 0) 0 1) (λ i. cond (f i == 0) 1 0) n in
    let ones = sum_to_same (λ i. cond (f i == 0) 0 1 + cond (f i == 0) 1 0) (λ i. 1) n (λ i l. one_of_two (f i)) in
    omega (arith, sum_to_ones n)
