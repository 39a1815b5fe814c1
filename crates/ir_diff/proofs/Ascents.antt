-- A row whose starts ascend from each to the next.
use Rattle.std.proofs.Common.{◌≡◌, ℕ, ◌+◌, ◌-◌, ◌<◌, ◌≤◌, List, length, get_or, ap, inl, inr, arith}
use Rattle.std.proofs.lemmas.Bool.{cases_eq}
use Rattle.ir_diff.specs.declared.changes.Lead.{Lead}
use Rattle.ir_diff.specs.Changes.{AscendByStart, lead_starts}
use Rattle.ir_diff.proofs.Places.{none, start_at, length_starts}

-- each start below this place is below the next one
abbrev pub StepsUp : List Lead → ℕ → Type 0
StepsUp row place = (k : ℕ) → k + 1 < place → (get_or row k none).start < (get_or row (k + 1) none).start

pub one_step : (row : List Lead) (place : ℕ) → StepsUp row place → 1 ≤ place → (get_or row (place - 1) none).start < (get_or row place none).start → StepsUp row (place + 1)
one_step row place up some step k h =
    elim (cases_eq (k + 1) place) [
      | inl e ↦
          let before : k ≡ place - 1 = omega (arith, e) in
          let a : (get_or row k none).start ≡ (get_or row (place - 1) none).start = ap (λ (j : ℕ). (get_or row j none).start) before in
          let b : (get_or row (k + 1) none).start ≡ (get_or row place none).start = ap (λ (j : ℕ). (get_or row j none).start) e in
          omega (arith, a, b, step)
      | inr ne ↦ up k (omega (arith, ne, h))
    ]

pub ascends : (row : List Lead) (place : ℕ) → StepsUp row place → length row ≤ place → AscendByStart row
ascends row place up all k h =
    let len = length_starts row in
    let a = start_at row k none (omega arith) in
    let b = start_at row (k + 1) none (omega arith) in
    let s = up k (omega arith) in
    omega (arith, a, b, s)

pub steps_up : (row : List Lead) (place : ℕ) → AscendByStart row → 1 ≤ place → place < length row → (get_or row (place - 1) none).start < (get_or row place none).start
steps_up row place up some inside =
    let len = length_starts row in
    let e : place - 1 + 1 ≡ place = omega arith in
    let r = up (place - 1) (omega (arith, e, len)) in
    let a = start_at row (place - 1) none (omega arith) in
    let b = start_at row place none inside in
    let c : get_or (lead_starts row) (place - 1 + 1) 0 ≡ get_or (lead_starts row) place 0 = ap (λ (j : ℕ). get_or (lead_starts row) j 0) e in
    omega (arith, r, a, b, c)
