use Rattle.std.specs.Prelude.{◌≡◌, ℕ, None, length, slice_index_or}
use Rattle.ir_control.proofs.outcomes.empty_slots.Given as goal

abbrev pub invariant-loop-slot : goal.invariant-loop-slot
invariant-loop-slot g l = (length l.slots.items ≡ l._slot) × ((k : ℕ) → slice_index_or l.slots.items k None ≡ None)
