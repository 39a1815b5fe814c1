use Rattle.std.specs.Prelude.{◌≡◌, ◌<◌, ℕ, length, slice_index}
use Rattle.ir_control.specs.Places.{IsFilledTo, offset}
use Rattle.ir_control.specs.Wired.{IsNetChannel}
use Rattle.ir_control.proofs.channels.ways_of.Given as goal

abbrev pub invariant-loop-u : goal.invariant-loop-u
invariant-loop-u l = (length l.offsets.items ≡ l.u)
    × ((v : ℕ) → v < l.u → slice_index l.offsets.items v ≡ offset l.topology v)
    × IsFilledTo l.topology (λ v hop channel. IsNetChannel l.terms.opening.now l.terms.restamps l.terms.capacity v hop.node channel) l.u 0 l.ways.items
