-- Parcels of one net.
use Rattle.std.specs.Prelude.{◌≡◌, ℕ, ◌≤◌, List, All, length}
use Rattle.ir_epochs.specs.declared.registry.Stamp.{Stamp}
use Rattle.ir_worker.specs.Seen.{Parcel, IsOfNet, stamps_of}
use Rattle.ir_worker.specs.Wires.{In}

-- all stamps of the parcel are of the net
abbrev pub IsParcelOf : Stamp → Parcel → Type 0
IsParcelOf opening x = All (λ s. IsOfNet opening s) (stamps_of x.first x.later)

-- the parcel has had no more restamps than so many
abbrev pub IsFew : ℕ → Parcel → Type 0
IsFew limit x = length x.packet.restamps ≤ limit

-- parcels of the net of the opening's stamp, with no more restamps than so many
pub record AreOfNet (opening : Stamp) (restamps : ℕ) (xs : List Parcel) : Type 0 where
  pub each : All (λ x. IsParcelOf opening x) xs
  pub few : All (λ x. IsFew restamps x) xs

-- ends of channels of that net
pub record AreTakersOf (opening : Stamp) (restamps : ℕ) (takers : List In) : Type 0 where
  pub places : All (λ t. t.channel.place.opening ≡ opening) takers
  pub limits : All (λ t. t.channel.place.restamps ≡ restamps) takers

-- Where takers are of a net, and so was what was left, what is left now is of it too.
abbrev pub StayOfNet : List In → List Parcel → List Parcel → Type 0
StayOfNet takers before after = (opening : Stamp) (restamps : ℕ) → AreTakersOf opening restamps takers → AreOfNet opening restamps before → AreOfNet opening restamps after
