-- What makes a packet's record sound: each of its segments follows the walk that the full table of its one epoch
-- prescribes.
use Rattle.std.specs.Prelude.{◌≡◌, ℕ, ◌-◌, ◌*◌, ◌<◌, ◌≤◌, List, [], ◌∷◌, ◌++◌, length, reverse, Some, slice_get}
use Rattle.std.specs.List.{AllByRecursion}
use mathlib.Core.List.{IsPrefix}
use Rattle.ir_model.specs.declared.Hop.{Hop}
use Rattle.ir_model.specs.declared.Kind.{Kind}
use Rattle.ir_model.specs.declared.Kind.TheVariants.{Tree, Shortest, Compact, Landmark}
use Rattle.ir_model.specs.Walk.{walk_weight, IsDistance}
use Rattle.ir_model.specs.Table.{IsPrescribedWalk}
use Rattle.ir_model.specs.Plan.{Plan, next_hop, table_port, IsPlan}
use Rattle.ir_core.specs.Record.{Record, segments, joined}
use Rattle.ir_core.specs.declared.packet.Restamp.{Restamp}
use Rattle.ir_core.specs.declared.packet.Fate.{Fate}
use Rattle.ir_core.specs.declared.packet.Fate.TheVariants.{Delivered, Retired, Down, Full, Left}
use Rattle.ir_core.specs.Setting.{Setting}
use Rattle.ir_core.specs.Entry.{Entry}
use Rattle.ir_core.specs.History as history

abbrev pub last_of : List ℕ → ℕ
last_of [] = 0
last_of (x ∷ []) = x
last_of (x ∷ y ∷ rest) = last_of (y ∷ rest)

-- the plan's table sends the packet on from its last hop, along this link to this node
abbrev pub LeadsOn : Plan → Record → ℕ → ℕ → Type 0
LeadsOn plan r link node = (h : Hop) × (next_hop plan (last_of r.hops) r.dest ≡ Some h) × (h.link ≡ link) × (h.node ≡ node)

-- the walk goes on after the hops, along this link to this node
abbrev pub GoesOnAlong : Plan → Record → List ℕ → ℕ → ℕ → Type 0
GoesOnAlong plan r walk link node = IsPrefix (r.hops ++ node ∷ []) walk × LeadsOn plan r link node

-- with a kind of shortest ways, the hops weigh the distance from the source to the destination; with one of landmarks,
-- at most so many percent of it as the stretch allows
abbrev pub WeighsTheDistance : Kind → Plan → Record → Type 0
WeighsTheDistance Shortest plan r = IsDistance plan.topology r.source r.dest (walk_weight plan.topology r.hops)
WeighsTheDistance Compact plan r = IsDistance plan.topology r.source r.dest (walk_weight plan.topology r.hops)
WeighsTheDistance Tree plan r = Unit {0}
WeighsTheDistance (Landmark t) plan r =
    (n : ℕ) × IsDistance plan.topology r.source r.dest n × (100 * walk_weight plan.topology r.hops ≤ t.stretch * n)

-- what a fate says of the hops and of the prescribed walk
abbrev pub FateFits : Plan → Record → List ℕ → Fate → Type 0
FateFits plan r walk Delivered = (r.hops ≡ walk) × WeighsTheDistance plan.kind plan r
FateFits plan r walk Retired = Unit {0}
FateFits plan r walk (Down l) = (node : ℕ) × GoesOnAlong plan r walk l node
FateFits plan r walk (Full l node) = GoesOnAlong plan r walk l node
FateFits plan r walk Left = Unit {0}

-- A record of one epoch is sound by the plan of that epoch: its hops are a prefix of the prescribed walk, not empty,
-- and its fate fits.
pub record IsSound (t : Plan) (r : Record) : Type 0 where
  pub plan : IsPlan t
  pub walk : List ℕ
  pub prescribed : IsPrescribedWalk t.topology (table_port t) r.source r.dest walk
  pub not_empty : 0 < length r.hops
  pub follows : IsPrefix r.hops walk
  pub fate : FateFits t r walk r.fate

-- A record of one epoch is sound by a plan of that epoch.
pub record IsSoundBy (IsPlanOf : ℕ → Plan → Type 0) (r : Record) : Type 0 where
  pub plan : Plan
  pub of_epoch : IsPlanOf r.epoch plan
  pub sound : IsSound plan r

-- the epochs rise from segment to segment; the latest segment is first
abbrev pub AreRising : List Record → Type 0
AreRising [] = Unit {0}
AreRising (g ∷ []) = Unit {0}
AreRising (g ∷ h ∷ rest) = (h.epoch < g.epoch) × AreRising (h ∷ rest)

-- each segment begins where the one before it ended
abbrev pub AreLinked : List Record → Type 0
AreLinked [] = Unit {0}
AreLinked (g ∷ []) = Unit {0}
AreLinked (g ∷ h ∷ rest) = (g.source ≡ last_of h.hops) × AreLinked (h ∷ rest)

-- the places of restamps, the latest first: below this number, and each before the one that followed it
abbrev pub ArePlaces : ℕ → List Restamp → Type 0
ArePlaces n [] = Unit {0}
ArePlaces n (s ∷ older) = (s.from < n) × ArePlaces s.from older

-- A record is sound by the plans of epochs: it has at most so many restamps, each at a place of its own in the hops.
-- Its hops are its segments joined end to end, each of which begins where the one before it ended. Their epochs rise,
-- and each segment is sound by the plan of its epoch, the last of them with the record's fate.
pub record IsSoundRecord (most : ℕ) (IsPlanOf : ℕ → Plan → Type 0) (r : Record) : Type 0 where
  pub few : length r.restamps ≤ most
  pub places : ArePlaces (length r.hops) (reverse r.restamps)
  pub joined : joined (segments r) ≡ r.hops
  pub linked : AreLinked (segments r)
  pub rising : AreRising (segments r)
  pub each : AllByRecursion (IsSoundBy IsPlanOf) (segments r)

-- the plan of an epoch, where these are the plans of the epochs from 1 on
abbrev pub IsPlanAmong : List Plan → ℕ → Plan → Type 0
IsPlanAmong plans epoch plan = (0 < epoch) × (slice_get plans (epoch - 1) ≡ Some plan)

-- Every record of a history is sound by the plans of its epochs.
abbrev pub AllSound : Setting → List Entry → Type 0
AllSound setting log = (id : ℕ) (r : Record) → history.packet id log ≡ Some r → IsSoundRecord setting.restamps (IsPlanAmong (history.plans setting log)) r

-- Where a network allows no restamp, every record of a history is a record of one epoch, and sound as one.
abbrev pub AllOfOneEpoch : Setting → List Entry → Type 0
AllOfOneEpoch setting log = (id : ℕ) (r : Record) → history.packet id log ≡ Some r → (r.restamps ≡ []) × IsSoundBy (IsPlanAmong (history.plans setting log)) r
