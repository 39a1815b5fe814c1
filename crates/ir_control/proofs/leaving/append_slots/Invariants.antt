use Rattle.std.specs.Prelude.{◌≡◌, ◌++◌, Some, map, vec_capacity}
use Rattle.ir_control.proofs.leaving.append_slots.Given as goal

abbrev pub invariant-loop-item : goal.invariant-loop-item
invariant-loop-item g l = (l.into.items ≡ l.fn.into.items ++ map (λ x. Some x) l.yielded) × (vec_capacity l.into ≡ vec_capacity l.fn.into)
