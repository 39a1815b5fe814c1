use Rattle.std.specs.Prelude.{◌≡◌, ◌+◌, ℕ, List, Option, All, length, sum_by}
use Rattle.ir_control.specs.Slots.{slot_weight, AllAt, AllIn}
use Rattle.ir_control.proofs.placing.place_all.Given as goal

pub record IsPlacing {X : Type 0} (key : X → ℕ) {Whole : Type 0} (P : X → Whole → Type 0) (slots_0 : List (Option X)) (all : List X) (slots : List (Option X)) (rest : List X) : Type 0 where
  pub len : length slots ≡ length slots_0
  pub at : AllAt key slots
  pub kinds : (whole : Whole) → AllIn (λ x. P x whole) slots_0 → All (λ x. P x whole) all → AllIn (λ x. P x whole) slots × All (λ x. P x whole) rest
  pub weighs : (w : X → ℕ) → sum_by (slot_weight w) slots + sum_by w rest ≡ sum_by (slot_weight w) slots_0 + sum_by w all

abbrev pub invariant-loop-item : goal.invariant-loop-item
invariant-loop-item g l = IsPlacing g.T.Member.key_of g.T.Member.belongs l.fn.slots.items l.fn.items.items l.slots.items l.items.items

abbrev pub decreases-loop-item : goal.decreases-loop-item
decreases-loop-item g l = goal.left-loop-item g l
