-- What contracts see of a parcel, and where it goes.
use Rattle.std.specs.Prelude.{◌≡◌, ◌⊎◌, ℕ, ◌<◌, ◌≤◌, List, [], ◌∷◌, ◌++◌, Some, All, length, reverse, slice_get}
use Rattle.ir_model.specs.Topology.{node_count}
use Rattle.ir_model.specs.Plan.{Plan, label_in}
use Rattle.ir_core.specs.declared.TheConstants.{MAX_NODES, MAX_RESTAMPS}
use Rattle.ir_core.specs.declared.packet.Fate.TheVariants.{Left}
use Rattle.ir_core.specs.Record.{Record, hop_room, segments, joined, present}
use Rattle.std.specs.List.{AllByRecursion}
use Rattle.ir_core.specs.Sound.{IsSound, AreRising, AreLinked, ArePlaces, last_of}
use Rattle.ir_core.specs.World.{IsBeginning, StepsTo}
use Rattle.ir_epochs.specs.declared.registry.Stamp.{Stamp}
use Rattle.ir_epochs.specs.Stamps.{knows, registry_name}
use Rattle.ir_epochs.specs.Over.{IsOver}
use Rattle.ir_worker.specs.declared.parcel.Place.{Place}

-- A packet's record so far, its first stamp and those of its later segments, and the node that it goes to.
pub record Parcel : Type 0 where
  pub packet : Record
  pub first : Stamp
  pub later : List Stamp
  pub next : ℕ

-- of stamps, the latest first: the latest, or the first of all where there is no other
abbrev pub latest_stamp : List Stamp → Stamp → Stamp
latest_stamp [] first = first
latest_stamp (s ∷ older) first = s

-- all stamps, the latest first, and the stamp of the present segment
abbrev pub stamps_of : Stamp → List Stamp → List Stamp
stamps_of first later = reverse later ++ first ∷ []

abbrev pub present_stamp : Stamp → List Stamp → Stamp
present_stamp first later = latest_stamp (reverse later) first

abbrev pub stamp_now : Parcel → Stamp
stamp_now p = present_stamp p.first p.later

-- each segment with its stamp, the latest first
abbrev pub EachBy : (Stamp → Record → Type 0) → List Stamp → List Record → Type 0
EachBy P [] [] = Unit {0}
EachBy P [] (g ∷ gs) = ⊥
EachBy P (s ∷ ss) [] = ⊥
EachBy P (s ∷ ss) (g ∷ gs) = P s g × EachBy P ss gs

-- A segment is a beginning of the walk that the plan of its stamp prescribes from its first node to the destination.
pub record IsStretchBy (s : Stamp) (g : Record) : Type 0 where
  pub epoch : g.epoch ≡ s.epoch
  pub source_in : g.source < node_count (knows s).topology
  pub dest_in : g.dest < node_count (knows s).topology
  pub few : node_count (knows s).topology ≤ MAX_NODES
  pub begins : slice_get g.hops 0 ≡ Some g.source
  pub follows : IsBeginning (knows s) g.dest g.hops

-- The segments of a record are such, one for each stamp; their epochs rise, and each restamp is at a place of its
-- own.
pub record IsRoutedBy (stamps : List Stamp) (r : Record) : Type 0 where
  pub few : length r.restamps ≤ MAX_RESTAMPS
  pub places : ArePlaces (length r.hops) (reverse r.restamps)
  pub rising : AreRising (segments r)
  pub each : EachBy IsStretchBy stamps (segments r)

-- A segment is sound by the plan of its stamp.
abbrev pub IsSoundByStamp : Stamp → Record → Type 0
IsSoundByStamp s g = (g.epoch ≡ s.epoch) × IsSound (knows s) g

-- A record is sound by its stamps: each segment is. The segments joined end to end are its hops, each begins where the
-- one before it ended, their epochs rise, and each restamp is at a place of its own.
pub record IsSoundByStamps (stamps : List Stamp) (r : Record) : Type 0 where
  pub few : length r.restamps ≤ MAX_RESTAMPS
  pub places : ArePlaces (length r.hops) (reverse r.restamps)
  pub joined : joined (segments r) ≡ r.hops
  pub linked : AreLinked (segments r)
  pub rising : AreRising (segments r)
  pub each : EachBy IsSoundByStamp stamps (segments r)

-- the node that follows the hops of a segment, or its first node while the packet is there
abbrev pub IsNextNode : Plan → Record → ℕ → Type 0
IsNextNode t g next = ((g.hops ≡ g.source ∷ []) × (next ≡ g.source)) ⊎ StepsTo t g.dest (last_of g.hops) next

-- a segment under way: a beginning of its walk, and the node that it goes to
pub record IsSegmentUnderWay (t : Plan) (g : Record) (next : ℕ) : Type 0 where
  pub source_in : g.source < node_count t.topology
  pub dest_in : g.dest < node_count t.topology
  pub few : node_count t.topology ≤ MAX_NODES
  pub begins : slice_get g.hops 0 ≡ Some g.source
  pub follows : IsBeginning t g.dest g.hops
  pub goes : IsNextNode t g next
  pub left : g.fate ≡ Left

-- all plans that the stamps know are over so many nodes
abbrev pub AreOverNodes : ℕ → List Stamp → Type 0
AreOverNodes nodes stamps = AllByRecursion (λ s. node_count (knows s).topology ≡ nodes) stamps

-- What is true of every parcel. Its record has room for the hops of as many restamps as it has had.
pub record IsParcelKept (first : Stamp) (later : List Stamp) (r : Record) (next address : ℕ) : Type 0 where
  pub routed : IsRoutedBy (stamps_of first later) r
  pub first_epoch : r.epoch ≡ first.epoch
  pub labelled : address ≡ label_in (knows (present_stamp first later)) r.dest
  pub goes : IsNextNode (knows (present_stamp first later)) (present r) next
  pub left : r.fate ≡ Left
  pub nodes : AreOverNodes (node_count (knows first).topology) (stamps_of first later)
  pub room : hop_room (length r.restamps) (node_count (knows first).topology) ≤ r.room

-- a stamp of the net of the opening's stamp: of its registry, with a plan over links of its network
abbrev pub IsOfNet : Stamp → Stamp → Type 0
IsOfNet opening s = (registry_name s ≡ registry_name opening) × IsOver (knows opening).topology (knows s).topology

-- the record has the room of a net of the opening's stamp that allows so many restamps
abbrev pub HasRoomOf : Stamp → ℕ → Parcel → Type 0
HasRoomOf opening restamps p = p.packet.room ≡ hop_room restamps (node_count (knows opening).topology)

-- A parcel goes to a place of its net if its last hop is the place's first node, the node that it goes to is the
-- second, and all its stamps are of the net. Its record then has the room of the net; it has had no more restamps than
-- the net allows, and none in an inbox.
pub record GoesTo (p : Parcel) (place : Place) : Type 0 where
  pub last : last_of p.packet.hops ≡ place.from
  pub next : p.next ≡ place.to
  pub of_net : All (λ s. IsOfNet place.opening s) (stamps_of p.first p.later)
  pub few : length p.packet.restamps ≤ place.restamps
  pub room : HasRoomOf place.opening place.restamps p
  pub fresh : place.from ≡ place.to → p.packet.restamps ≡ []

-- a place of the net of the opening's stamp, which allows so many restamps
abbrev pub net_place : Stamp → ℕ → ℕ → ℕ → Place
net_place opening restamps from to = record { from = from; to = to; restamps = restamps; opening = opening }
