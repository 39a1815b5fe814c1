use Rattle.std.specs.Prelude.{◌≡◌, ◌≤◌, ◌<◌, ℕ, List, Some, None, length, map, slice_index_or, vec_capacity}
use Rattle.ir_worker.specs.declared.parcel.Outcome.{Outcome}
use Rattle.ir_control.proofs.outcomes.told_in_order.Given as goal

pub record IsTelling (Count Full Told Room : Type 0) : Type 0 where
  pub count : Count
  pub full : Full
  pub told : Told
  pub room : Room

abbrev pub invariant-loop-i : goal.invariant-loop-i
invariant-loop-i l = IsTelling
    (length l.slots.items ≡ length l.fn.slots.items)
    ((k : ℕ) → l.i ≤ k → k < length l.slots.items → slice_index_or l.slots.items k None ≡ slice_index_or l.fn.slots.items k None)
    ((outcomes : List Outcome) × (length outcomes ≡ l.i) × ((k : ℕ) → k < l.i → slice_index_or (map (λ o. Some o) outcomes) k None ≡ slice_index_or l.fn.slots.items k None)
    × (l.report.records.items ≡ map (λ o. o.packet) outcomes) × (l.report.stamps.items ≡ map (λ o. o.stamp) outcomes) × (l.report.later.items ≡ map (λ o. o.later) outcomes))
    ((length l.fn.slots.items ≤ vec_capacity l.report.records) × (length l.fn.slots.items ≤ vec_capacity l.report.stamps) × (length l.fn.slots.items ≤ vec_capacity l.report.later))
