use Rattle.ir_epochs.specs.declared.registry.Stamp.{Stamp}
use Rattle.ir_control.specs.Whole.{AreOfNet, AreTakersOf}
use Rattle.ir_control.specs.Slots.{left_in}
use Rattle.std.specs.Prelude.{ℕ, ◌≡◌, ◌+◌, ◌≤◌, length, vec_len, vec_capacity}
use Rattle.ir_control.proofs.Meetings.{IsKept, IsMeeting}
use Rattle.ir_control.proofs.leaving.join_inboxes.Given as goal

abbrev pub invariant-loop-taker : goal.invariant-loop-taker
invariant-loop-taker l = IsKept
    (IsMeeting l.fn.senders.items l.fn.takers.items (left_in l.fn.channels.items) l.senders.items l.takers.items (left_in l.channels.items))
    (vec_len l.channels + length l.takers.items ≤ vec_capacity l.channels)
    (vec_capacity l.channels ≡ vec_capacity l.fn.channels)
    (vec_len l.channels + length l.takers.items ≤ vec_len l.fn.channels + length l.fn.takers.items)
    ((opening : Stamp) (restamps : ℕ) → AreTakersOf opening restamps l.fn.takers.items → AreOfNet opening restamps (left_in l.fn.channels.items)
    → AreTakersOf opening restamps l.takers.items × AreOfNet opening restamps (left_in l.channels.items))

abbrev pub decreases-loop-taker : goal.decreases-loop-taker
decreases-loop-taker l = length l.takers.items
