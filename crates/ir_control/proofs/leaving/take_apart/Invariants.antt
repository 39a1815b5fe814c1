use Rattle.std.specs.Prelude.{◌≡◌, length}
use Rattle.ir_control.specs.Rowed.{AreEndRows, AreSlotsFrom, AreWeighed, KeepRoom}
use Rattle.ir_control.specs.Told.{AreSettledIn}
use Rattle.ir_control.proofs.leaving.take_apart.Given as goal

pub record IsTaking (Slots Rows Weighed Settled Kind Room : Type 0) : Type 0 where
  pub slots : Slots
  pub rows : Rows
  pub weighed : Weighed
  pub settled : Settled
  pub kind : Kind
  pub room : Room

abbrev pub invariant-loop-u : goal.invariant-loop-u
invariant-loop-u l = IsTaking
    (AreSlotsFrom l.net l.u l.slots.items)
    (AreEndRows l.net l.u l.rows)
    (AreWeighed l.fn.slots.items l.slots.items l.rows)
    (length l.rows.settled.items ≡ l.u)
    (AreSettledIn l.net.opening l.rows.settled.items)
    (KeepRoom l.fn.rows l.rows)
