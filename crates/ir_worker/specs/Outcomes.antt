-- Outcomes of one net, and the causes that they name.
use Rattle.std.specs.Prelude.{ℕ, ◌+◌, ◌≤◌, List, All, length, take}
use Rattle.ir_epochs.specs.declared.registry.Stamp.{Stamp}
use Rattle.ir_epochs.specs.declared.entry.Entry.{Entry}
use Rattle.ir_epochs.specs.Entries.{board_of}
use Rattle.ir_worker.specs.declared.parcel.Outcome.{Outcome}
use Rattle.ir_worker.specs.Acts.{CauseHolds}
use Rattle.ir_worker.specs.Seen.{IsOfNet, stamps_of}

-- the outcome's stamps are of the net of the opening's stamp, and there were no more restamps than it allows
pub record IsOutcomeOf (opening : Stamp) (restamps : ℕ) (o : Outcome) : Type 0 where
  pub of_net : All (λ s. IsOfNet opening s) (stamps_of o.stamp o.later.items)
  pub few : length o.packet.restamps ≤ restamps

-- The cause that the outcome names held on the board of the version that it holds, which is one of these entries.
pub record IsCauseKnown (entries : List Entry) (o : Outcome) : Type 0 where
  pub within : o.version + 1 ≤ length entries
  pub holds : CauseHolds (board_of (take (o.version + 1) entries)) o.packet o.packet.fate
