-- Each number below the count was accepted once.
use Rattle.std.specs.Prelude.{◌≡◌, ℕ, suc, ◌+◌, ◌<◌, ◌≤◌, Bool, true, false, eqb, List, [], ◌∷◌, Some, length, slice_get, sum_by, cond}
use Rattle.std.proofs.Common.{refl, arith, sym, ap, ◌∙◌}
use Rattle.std.proofs.lemmas.Bool.{eqb-true, eqb-false, lt-ltb, le-ltb}
use Rattle.std.proofs.lemmas.List.Sums.{sum_by-cons}
use Rattle.ir_control.specs.declared.injector.Accepted.{Accepted}
use Rattle.ir_control.specs.Heads.{AreNumbered}
use Rattle.ir_control.specs.Slots.{hit, once}
use Rattle.ir_control.proofs.Slotted.{counts_own, counts_no_other}
use Rattle.ir_control.proofs.Wiring.{sum_nothing}

abbrev pub number : Accepted → ℕ
number a = a.id

abbrev AreFrom : ℕ → List Accepted → Type 0
AreFrom s xs = (k : ℕ) (a : Accepted) → slice_get xs k ≡ Some a → a.id ≡ s + k

later : (s : ℕ) (x : Accepted) (xs : List Accepted) → AreFrom s (x ∷ xs) → AreFrom (s + 1) xs
later s x xs from = λ k a got. (let e = from (suc k) a got in omega (arith, e))

below_none : (s i : ℕ) (xs : List Accepted) → AreFrom s xs → i < s → sum_by (hit number i) xs ≡ 0
below_none s i xs from lt = sum_nothing (hit number i) xs (λ k a got. counts_no_other number a i (λ e. (let f = from k a got in omega (arith, e, f, lt))))

step : (s i : ℕ) (x : Accepted) (xs : List Accepted) → AreFrom s (x ∷ xs) → s ≤ i → (s + 1 ≤ i → sum_by (hit number i) xs ≡ once (s + 1 + length xs) i)
    → (b : Bool) → eqb s i ≡ b → sum_by (hit number i) (x ∷ xs) ≡ once (s + length (x ∷ xs)) i
step s i x xs from le rest true e =
    let same : s ≡ i = eqb-true s i e in
    let first = from 0 x refl in
    let one_is : hit number i x ≡ 1 = counts_own number x i (omega (arith, same, first)) in
    let none : sum_by (hit number i) xs ≡ 0 = below_none (s + 1) i xs (later s x xs from) (omega (arith, same)) in
    let below : once (s + length (x ∷ xs)) i ≡ 1 = ap (λ b. cond b 1 0) (lt-ltb i (s + length (x ∷ xs)) (omega (arith, same))) in
    omega (arith, one_is, none, below, sum_by-cons (hit number i) x xs)
step s i x xs from le rest false e =
    let ne : s ≡ i → ⊥ = eqb-false s i e in
    let first = from 0 x refl in
    let none : hit number i x ≡ 0 = counts_no_other number x i (λ same. ne (omega (arith, same, first))) in
    let more = rest (omega (arith, le, ne)) in
    let count : once (s + 1 + length xs) i ≡ once (s + length (x ∷ xs)) i = ap (λ n. once n i) (omega arith) in
    omega (arith, none, more, count, sum_by-cons (hit number i) x xs)

from_here : (s i : ℕ) (xs : List Accepted) → AreFrom s xs → s ≤ i → sum_by (hit number i) xs ≡ once (s + length xs) i
from_here s i [] from le = sym (ap (λ b. cond b 1 0) (le-ltb i (s + 0) (omega (arith, le))))
from_here s i (x ∷ xs) from le = step s i x xs from le (λ more. from_here (s + 1) i xs (later s x xs from) more) (eqb s i) refl

-- each number below the count was accepted once, and no other
pub injected_once : (xs : List Accepted) → AreNumbered xs → (i : ℕ) → sum_by (hit number i) xs ≡ once (length xs) i
injected_once xs numbered i = from_here 0 i xs (λ k a got. (let e = numbered k a got in omega (arith, e))) (omega arith) ∙ ap (λ n. once n i) (let z : 0 + length xs ≡ length xs = omega arith in z)
