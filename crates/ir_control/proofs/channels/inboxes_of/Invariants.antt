use Rattle.std.specs.Prelude.{◌≡◌, ℕ, Some, length, slice_get}
use Rattle.ir_links.specs.Ends.{Channel}
use Rattle.ir_worker.specs.declared.parcel.Place.{Place}
use Rattle.ir_control.specs.Wired.{IsNetChannel}
use Rattle.ir_control.proofs.channels.inboxes_of.Given as goal

abbrev pub invariant-loop-u : goal.invariant-loop-u
invariant-loop-u l = (length l.inboxes.items ≡ l.u)
    × ((v : ℕ) (channel : Channel Place) → slice_get l.inboxes.items v ≡ Some channel → IsNetChannel l.terms.opening.now l.terms.restamps l.terms.capacity v v channel)
