use Rattle.std.specs.Prelude.{◌≡◌, ◌+◌, ℕ, All, length, sum_by}
use Rattle.ir_core.specs.declared.packet.Fate.TheVariants.{Left}
use Rattle.ir_epochs.specs.declared.registry.Stamp.{Stamp}
use Rattle.ir_control.specs.Slots.{slot_weight, AllAt, AllIn, left_in}
use Rattle.ir_control.specs.Told.{Told, outcome_told, told_left, outcome_number, IsOutcomeIn}
use Rattle.ir_control.specs.Whole.{IsParcelOf}
use Rattle.ir_control.proofs.outcomes.place_left.Given as goal

pub record IsPlacing (Len At Kinds Weighs Fates : Type 0) : Type 0 where
  pub len : Len
  pub at : At
  pub kinds : Kinds
  pub weighs : Weighs
  pub fates : Fates

abbrev pub invariant-loop-channel : goal.invariant-loop-channel
invariant-loop-channel g l = IsPlacing
    (length l.slots.items ≡ length l.fn.slots.items)
    (AllAt outcome_number l.slots.items)
    ((opening : Stamp) → AllIn (λ o. IsOutcomeIn opening o) l.fn.slots.items → All (λ x. IsParcelOf opening x) (left_in l.fn.channels.items) → AllIn (λ o. IsOutcomeIn opening o) l.slots.items × All (λ x. IsParcelOf opening x) (left_in l.channels.items))
    ((w : Told → ℕ) → sum_by (slot_weight (λ o. w (outcome_told o))) l.slots.items + sum_by (λ x. w (told_left x)) (left_in l.channels.items) ≡ sum_by (slot_weight (λ o. w (outcome_told o))) l.fn.slots.items + sum_by (λ x. w (told_left x)) (left_in l.fn.channels.items))
    (All (λ x. x.packet.fate ≡ Left) (left_in l.channels.items) → All (λ x. x.packet.fate ≡ Left) (left_in l.fn.channels.items))

abbrev pub decreases-loop-channel : goal.decreases-loop-channel
decreases-loop-channel g l = goal.left-loop-channel g l
