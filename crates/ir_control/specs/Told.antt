-- What a report says of a packet.
use Rattle.std.specs.Prelude.{◌≡◌, ℕ, ◌+◌, List, All, Option, Some, Vec, length, map, sum_by}
use Rattle.std.specs.Global.{Global}
use Rattle.ir_core.specs.declared.packet.Fate.TheVariants.{Left}
use Rattle.ir_core.specs.Record.{Record}
use Rattle.ir_epochs.specs.declared.registry.Stamp.{Stamp}
use Rattle.ir_worker.specs.declared.parcel.Outcome.{Outcome}
use Rattle.ir_worker.specs.Seen.{Parcel, IsOfNet, stamps_of}
use Rattle.ir_control.specs.declared.report.Report.{Report}
use Rattle.ir_control.specs.Slots.{AllAt, slot_weight}

-- its record, its first stamp and those of its later segments
pub record Told : Type 0 where
  pub packet : Record
  pub first : Stamp
  pub later : List Stamp

abbrev pub outcome_told : Outcome → Told
outcome_told o = record { packet = o.packet; first = o.stamp; later = o.later.items }

abbrev pub told_left : Parcel → Told
told_left x = record { packet = x.packet; first = x.first; later = x.later }

abbrev pub outcome_number : Outcome → ℕ
outcome_number o = o.packet.id

-- all stamps of an outcome are of the net
abbrev pub IsOutcomeIn : Stamp → Outcome → Type 0
IsOutcomeIn opening o = ∥ All (λ s. IsOfNet opening s) (stamps_of o.stamp o.later.items) ∥₁

-- rows of outcomes, all of which are of the net
abbrev pub AreSettledIn : Stamp → List (Vec Outcome Global) → Type 0
AreSettledIn opening rows = All (λ row. All (λ o. IsOutcomeIn opening o) row.items) rows

-- what the outcomes of rows weigh
abbrev pub weight_settled : (Outcome → ℕ) → List (Vec Outcome Global) → ℕ
weight_settled w rows = sum_by (λ row. sum_by w row.items) rows

-- What is left of these parcels came into the slots of their packets, and has the fate Left.
pub record AreLeftPlaced (before after : List (Option Outcome)) (left : List Parcel) : Type 0 where
  pub count : length after ≡ length before
  pub at : AllAt outcome_number after
  pub weighs : (w : Told → ℕ) → sum_by (slot_weight (λ o. w (outcome_told o))) after ≡ sum_by (slot_weight (λ o. w (outcome_told o))) before + sum_by (λ x. w (told_left x)) left
  pub fates : All (λ x. x.packet.fate ≡ Left) left

-- the report says what is in these slots, in order
abbrev pub TellsOf : List (Option Outcome) → Report → Type 0
TellsOf slots report = (outcomes : List Outcome) × (slots ≡ map (λ o. Some o) outcomes)
    × (report.records.items ≡ map (λ o. o.packet) outcomes) × (report.stamps.items ≡ map (λ o. o.stamp) outcomes)
    × (report.later.items ≡ map (λ o. o.later) outcomes)
