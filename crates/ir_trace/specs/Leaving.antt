-- Where a row of a trace leaves the walks of its epochs first.
use Rattle.std.specs.Prelude.{◌≡◌, ◌≢◌, ℕ, ◌<◌, ◌≤◌, List, [], ◌∷◌, take, Option, Some, None, slice_get, if◌then◌else◌}
use Rattle.ir_model.specs.Topology.{Topology, node_count}
use Rattle.ir_model.specs.Plan.{Plan}
use Rattle.ir_core.specs.declared.built.Install.{Install}
use Rattle.ir_core.specs.Sound.{last_of}
use Rattle.ir_trace.specs.declared.row.RowFate.{RowFate}
use Rattle.ir_trace.specs.Row.{Segment, TraceRow}
use Rattle.ir_trace.specs.Checked.{plan_at, last_part, IsRowOver, ArePlansOf, KnowsEpochs, IsFrontOfWalk, AreJoined, GoesOn, FollowsWalks}
use Rattle.ir_trace.specs.Inspect.{next_of, fits_fate, AreOver}
use Rattle.ir_trace.specs.declared.departing.Departure.{Departure}
use Rattle.ir_trace.specs.declared.departing.Departure.TheVariants.{Epoch, Start, Hop, Fate}

-- where a packet is after these parts of its way, from node u on
abbrev pub stands_after : ℕ → List Segment → ℕ
stands_after u [] = u
stands_after u (part ∷ parts) = stands_after (last_of part.hops) parts

-- the epoch of the last of these parts; this one where there is none
abbrev pub last_epoch : ℕ → List Segment → ℕ
last_epoch epoch [] = epoch
last_epoch epoch (part ∷ parts) = last_epoch part.epoch parts

-- Hop i of some hops leaves the walk to d. The hops before it are a front of the walk, and there is one; from the last
-- of them the plan's table sends on to `next`, and hop i is another node.
pub record IsStray (t : Plan) (d : ℕ) (hops : List ℕ) (i : ℕ) (next : Option ℕ) : Type 0 where
  pub front : IsFrontOfWalk t d (take i hops)
  pub next_is : next ≡ next_of t (last_of (take i hops)) d
  pub hop : ℕ
  pub hop_is : slice_get hops i ≡ Some hop
  pub other : next ≢ Some hop

-- Parts lead from node u on as far as part k. Those before it are joined end to end over rising epochs, and each is a
-- front of the walk to d that the table of its own epoch prescribes.
pub record IsReachedByParts (plans : List Plan) (d u : ℕ) (parts : List Segment) (k : ℕ) (part : Segment) : Type 0 where
  pub before : AreJoined plans d u 0 (take k parts)
  pub part_is : slice_get parts k ≡ Some part

-- The first of some parts, from node u on, that is not joined to those before it, over rising epochs, or leaves the walk to
-- d of its own epoch; and how.
abbrev pub LeavesAmong : List Plan → ℕ → ℕ → List Segment → Departure → Type 0
LeavesAmong plans d u parts (Epoch k) =
    (part : Segment) × IsReachedByParts plans d u parts k part
    × (part.epoch ≤ last_epoch 0 (take k parts))
LeavesAmong plans d u parts (Start k at) =
    (part : Segment) × IsReachedByParts plans d u parts k part
    × (last_epoch 0 (take k parts) < part.epoch)
    × (at ≡ stands_after u (take k parts)) × (slice_get part.hops 0 ≢ Some at)
LeavesAmong plans d u parts (Hop k i next) =
    (part : Segment) × IsReachedByParts plans d u parts k part
    × (last_epoch 0 (take k parts) < part.epoch)
    × (slice_get part.hops 0 ≡ Some (stands_after u (take k parts)))
    × IsStray (plan_at plans part.epoch) d part.hops i next
LeavesAmong plans d u parts (Fate next) = ⊥

-- All parts are joined and follow their walks; the table of the last epoch sends on to `next` from the last hop; and the walk
-- does not go on as the fate says.
pub record LeavesByFate (plans : List Plan) (row : TraceRow) (next : Option ℕ) : Type 0 where
  pub joined : AreJoined plans row.dest row.source 0 row.parts
  pub next_is : next ≡ next_of (plan_at plans (last_part row.parts).epoch) (last_of (last_part row.parts).hops) row.dest
  pub other : GoesOn (plan_at plans (last_part row.parts).epoch) row.dest (last_part row.parts).hops row.fate → ⊥

-- where a row leaves the walks of its epochs first
abbrev pub Leaves : List Plan → TraceRow → Departure → Type 0
Leaves plans row (Epoch k) = LeavesAmong plans row.dest row.source row.parts (Epoch k)
Leaves plans row (Start k at) = LeavesAmong plans row.dest row.source row.parts (Start k at)
Leaves plans row (Hop k i next) = LeavesAmong plans row.dest row.source row.parts (Hop k i next)
Leaves plans row (Fate next) = LeavesByFate plans row next

-- A row whose epochs are known leaves their walks there; with none, it follows them where its epochs are known.
abbrev pub IsDeparture : List Plan → TraceRow → Option Departure → Type 0
IsDeparture plans row None = KnowsEpochs plans row.parts → FollowsWalks plans row
IsDeparture plans row (Some found) = KnowsEpochs plans row.parts × Leaves plans row found

-- the same by plans of the installs
abbrev pub IsDepartureOf : Topology → List Install → TraceRow → Option Departure → Type 0
IsDepartureOf topology installs row found = (plans : List Plan) × ArePlansOf topology installs plans × IsDeparture plans row found

-- a row leaves the walks of its epochs first at one place, or at none
abbrev pub DepartureIsDetermined : Type 0
DepartureIsDetermined = (topology : Topology) (installs : List Install) (plans : List Plan) (row : TraceRow) (found other : Option Departure)
    → ArePlansOf topology installs plans → IsRowOver (node_count topology) row
    → IsDeparture plans row found → IsDeparture plans row other → found ≡ other

-- ---- what the parts of the program say

-- where one part, at place k, leaves its walk, of a packet that is at node u and whose epoch so far is this one
abbrev pub LeavesIn : List Plan → ℕ → ℕ → Segment → ℕ → ℕ → Option Departure → Type 0
LeavesIn plans d k part u above None =
    (above < part.epoch) × (slice_get part.hops 0 ≡ Some u) × IsFrontOfWalk (plan_at plans part.epoch) d part.hops
LeavesIn plans d k part u above (Some (Epoch segment)) = (segment ≡ k) × (part.epoch ≤ above)
LeavesIn plans d k part u above (Some (Start segment at)) =
    (segment ≡ k) × (above < part.epoch) × (at ≡ u) × (slice_get part.hops 0 ≢ Some u)
LeavesIn plans d k part u above (Some (Hop segment i next)) =
    (segment ≡ k) × (above < part.epoch) × (slice_get part.hops 0 ≡ Some u)
    × IsStray (plan_at plans part.epoch) d part.hops i next
LeavesIn plans d k part u above (Some (Fate next)) = ⊥

-- from the last of some hops the table sends on, and that is not what the fate says
abbrev pub left_by_fate : Plan → ℕ → List ℕ → RowFate → Option Departure
left_by_fate t d hops fate =
    if fits_fate fate (last_of hops) (next_of t (last_of hops) d) then None else Some (Fate (next_of t (last_of hops) d))

-- the plans of the epochs and a row are over the nodes of one network
pub record AreOverRow (plans : List Plan) (row : TraceRow) : Type 0 where
  pub topology : Topology
  pub plans_are : AreOver (node_count topology) plans
  pub row_is : IsRowOver (node_count topology) row
