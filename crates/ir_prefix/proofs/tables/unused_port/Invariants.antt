use Rattle.std.proofs.Common.{◌≡◌, ◌<◌, ◌-◌, ℕ, Any, Some, Option}
use Rattle.ir_prefix.proofs.tables.unused_port.Given as goal

abbrev pub invariant-loop-below : goal.invariant-loop-below
invariant-loop-below l = (k : ℕ) → k < l.below → Any (λ (o : Option ℕ). o ≡ Some (65535 - k)) l.ports
