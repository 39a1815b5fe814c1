use Rattle.std.specs.Prelude.{◌≡◌, ◌+◌, ℕ, length, sum_by}
use Rattle.ir_epochs.specs.declared.registry.Stamp.{Stamp}
use Rattle.ir_worker.specs.declared.parcel.Outcome.{Outcome}
use Rattle.ir_control.specs.Slots.{slot_weight, AllAt, AllIn}
use Rattle.ir_control.specs.Told.{outcome_number, AreSettledIn, IsOutcomeIn, weight_settled}
use Rattle.ir_control.proofs.outcomes.place_rows.Given as goal

pub record IsPlacing (Len At Kinds Weighs : Type 0) : Type 0 where
  pub len : Len
  pub at : At
  pub kinds : Kinds
  pub weighs : Weighs

abbrev pub invariant-loop-row : goal.invariant-loop-row
invariant-loop-row l = IsPlacing
    (length l.slots.items ≡ length l.fn.slots.items)
    (AllAt outcome_number l.slots.items)
    ((opening : Stamp) → AllIn (λ o. IsOutcomeIn opening o) l.fn.slots.items → AreSettledIn opening l.fn.rows.items → AllIn (λ o. IsOutcomeIn opening o) l.slots.items × AreSettledIn opening l.rows.items)
    ((w : Outcome → ℕ) → sum_by (slot_weight w) l.slots.items + weight_settled w l.rows.items ≡ sum_by (slot_weight w) l.fn.slots.items + weight_settled w l.fn.rows.items)

abbrev pub decreases-loop-row : goal.decreases-loop-row
decreases-loop-row l = goal.left-loop-row l
