-- What a crew made by a closure, said of the closure that the crew was lent as a `dyn`.
use Rattle.std.proofs.Common.{◌≡◌, ◌<◌, ℕ, List, subst, sym, Bor}
use Rattle.std.specs.List.{AllZip}
use Rattle.std.specs.declared.result.Result.{Result}
use Rattle.std.specs.declared.alloc.AllocError.{AllocError}
use borrow.Pointer.Hide.{carry_now, carried_same}
use denote.Param.Table.{Entry}
use denote.Param.Callables.{Sure}
use denote.Param.Members.{Shared}
use mir.Syntax.{Dict}

abbrev pub Makes : Type 0 → Type 0 → Type 1
Makes T F = Shared F (ℕ × Unit {0}) (Result T AllocError)

pub by_closure : (T : Type 0) (e f : Entry (Makes T) Dict) (same : e ≡ f) (x : Bor e.0.Denot) (us : List ℕ) (made : List (Result T AllocError))
    → AllZip (λ (k : ℕ) (one : Result T AllocError). f.1.post (carry_now (Makes T) Dict e f same x) (k, tt) one) us made
    → AllZip (λ (k : ℕ) (one : Result T AllocError). e.1.post x.now (k, tt) one) us made
by_closure T e f same x us made zipped =
    let F : (j : Entry (Makes T) Dict) → Bor j.0.Denot → Type 0 = λ j y. AllZip (λ (k : ℕ) (one : Result T AllocError). j.1.post y.now (k, tt) one) us made in
    subst (λ (t : Type 0). t) (carried_same (Makes T) Dict e f same (Type 0) F x) zipped

-- the closure may be called for each number below one, so the `dyn` may
pub of_closure : (T : Type 0) (e f : Entry (Makes T) Dict) (same : e ≡ f) (x : Bor e.0.Denot) (count : ℕ) → ((k : ℕ) → k < count → e.1.pre x.now (k, tt))
    → (k : ℕ) → k < count → Sure (f.1.pre (carry_now (Makes T) Dict e f same x) (k, tt))
of_closure T e f same x count may k lt =
    let F : (j : Entry (Makes T) Dict) → Bor j.0.Denot → Type 0 = λ j y. Sure (j.1.pre y.now (k, tt)) in
    subst (λ (t : Type 0). t) (sym (carried_same (Makes T) Dict e f same (Type 0) F x)) ∣ may k lt ∣₁
