-- What the rows of a trace are checked for, against what each epoch was installed with.
use Rattle.std.specs.Prelude.{◌≡◌, ℕ, ◌+◌, ◌-◌, ◌*◌, ◌<◌, ◌≤◌, ◌⊎◌, true, List, [], ◌∷◌, ◌++◌, length, take, sum_by, Bool, nat_lt, ◌&&◌, Some, slice_get, slice_index_or}
use Rattle.std.specs.List.{list_all}
use Rattle.ir_model.specs.declared.Detour.{Detour}
use Rattle.ir_model.specs.declared.Kind.TheVariants.{Landmark}
use Rattle.ir_model.specs.Topology.{Topology, node_count, restrict}
use Rattle.ir_model.specs.Walk.{IsConnected, IsDistance, walk_weight}
use Rattle.ir_model.specs.Table.{IsPrescribedWalk}
use Rattle.ir_model.specs.Plan.{Plan, table_port}
use Rattle.ir_plan.specs.Building.{HasRoot, MayLabel, IsPlanBy}
use Rattle.ir_plan.specs.Starts.{IsOfShortestWays}
use Rattle.ir_core.specs.declared.built.Install.{Install}
use Rattle.ir_core.specs.Installed.{labelled_by}
use Rattle.ir_core.specs.Setting.{no_plan}
use mathlib.Core.List.{IsPrefix}
use Rattle.ir_core.specs.Sound.{last_of}
use Rattle.ir_trace.specs.declared.TheConstants.{MAX_SEGMENTS}
use Rattle.ir_trace.specs.declared.row.RowFate.{RowFate}
use Rattle.ir_trace.specs.declared.row.RowFate.TheVariants.{Delivered, Retired, Down, Full, Left}
use Rattle.ir_trace.specs.declared.finding.FindingKind.{FindingKind}
use Rattle.ir_trace.specs.declared.finding.FindingKind.TheVariants.{UnknownEpoch, NotAPrefix, NotAtDestination, BadWeight, Repeated, NoMemory}
use Rattle.ir_trace.specs.Row.{Segment, TraceRow}

-- ---- the epochs

-- What an epoch can be installed with: a mark for each link, of which those that are up join all nodes, and a root that
-- is a node or an order that it keeps.
pub record IsInstall (topology : Topology) (install : Install) : Type 0 where
  pub some : 0 < node_count topology
  pub root : HasRoot topology (labelled_by install)
  pub labels : MayLabel topology install.kind (labelled_by install)
  pub marks : length install.up.items ≡ length topology.links
  pub joined : IsConnected (restrict install.up.items topology)

abbrev pub AreInstalls : Topology → List Install → Type 0
AreInstalls topology installs = (i : ℕ) (install : Install) → slice_get installs i ≡ Some install → IsInstall topology install

-- a plan for each epoch: of the kind of its install, over the links that were up, labelled by the order that it kept, or
-- from its root
abbrev pub ArePlansOf : Topology → List Install → List Plan → Type 0
ArePlansOf topology [] [] = Unit {0}
ArePlansOf topology [] (t ∷ plans) = ⊥
ArePlansOf topology (i ∷ installs) [] = ⊥
ArePlansOf topology (i ∷ installs) (t ∷ plans) = IsPlanBy (restrict i.up.items topology) i.kind (labelled_by i) t × ArePlansOf topology installs plans

-- the plan of an epoch
abbrev pub plan_at : List Plan → ℕ → Plan
plan_at plans e = slice_index_or plans (e - 1) no_plan

-- ---- the rows that are checked

abbrev pub no_part : Segment
no_part = record { epoch = 0; hops = [] }

abbrev pub last_part : List Segment → Segment
last_part parts = slice_index_or parts (length parts - 1) no_part

-- the nodes of a part are among so many, and there is one
abbrev pub is_part_over : ℕ → Segment → Bool
is_part_over nodes part = nat_lt 0 (length part.hops) && list_all (λ u. nat_lt u nodes) part.hops

-- A row over so many nodes: its nodes are among them, and it has a few parts, each with a hop.
pub record IsRowOver (nodes : ℕ) (row : TraceRow) : Type 0 where
  pub source : row.source < nodes
  pub dest : row.dest < nodes
  pub some : 0 < length row.parts
  pub few : length row.parts ≤ MAX_SEGMENTS
  pub parts : list_all (is_part_over nodes) row.parts ≡ true

abbrev pub AreRowsOver : ℕ → List TraceRow → Type 0
AreRowsOver nodes rows = (i : ℕ) (row : TraceRow) → slice_get rows i ≡ Some row → IsRowOver nodes row

-- ---- what a row is checked for

-- the epoch of each part is one of these
abbrev pub KnowsEpochs : List Plan → List Segment → Type 0
KnowsEpochs plans parts = (i : ℕ) (part : Segment) → slice_get parts i ≡ Some part → (0 < part.epoch) × (part.epoch ≤ length plans)

-- the hops are a prefix of the walk that the plan prescribes from the first of them to d
abbrev pub IsFrontOfWalk : Plan → ℕ → List ℕ → Type 0
IsFrontOfWalk t d [] = ⊥
IsFrontOfWalk t d (u ∷ rest) = (walk : List ℕ) × IsPrescribedWalk t.topology (table_port t) u d walk × IsPrefix (u ∷ rest) walk

-- the hops are the whole walk
abbrev pub IsWholeWalk : Plan → ℕ → List ℕ → Type 0
IsWholeWalk t d [] = ⊥
IsWholeWalk t d (u ∷ rest) = IsPrescribedWalk t.topology (table_port t) u d (u ∷ rest)

-- From node u on the parts are joined end to end, and their epochs rise, from above this one. Each is a prefix of the
-- walk to d that the full table of its own epoch prescribes.
abbrev pub AreJoined : List Plan → ℕ → ℕ → ℕ → List Segment → Type 0
AreJoined plans d u above [] = Unit {0}
AreJoined plans d u above (part ∷ parts) =
    (above < part.epoch) × (slice_get part.hops 0 ≡ Some u) × IsFrontOfWalk (plan_at plans part.epoch) d part.hops
    × AreJoined plans d (last_of part.hops) part.epoch parts

-- the two ends of a link, in either order
abbrev pub ArePair : ℕ → ℕ → ℕ → ℕ → Type 0
ArePair u v low high = ((u ≡ low) × (v ≡ high)) ⊎ ((u ≡ high) × (v ≡ low))

-- the walk goes on after the hops, along the link that was down, or over the channel that was full
abbrev pub GoesOn : Plan → ℕ → List ℕ → RowFate → Type 0
GoesOn t d hops Delivered = Unit {0}
GoesOn t d hops Retired = Unit {0}
GoesOn t d hops (Down low high) = (v : ℕ) × IsFrontOfWalk t d (hops ++ v ∷ []) × ArePair (last_of hops) v low high
GoesOn t d hops (Full from to) = IsFrontOfWalk t d (hops ++ to ∷ []) × (last_of hops ≡ from)
GoesOn t d hops Left = Unit {0}

-- The row's parts follow the walks of their epochs from its source on, and the last walk goes on as the fate says.
pub record FollowsWalks (plans : List Plan) (row : TraceRow) : Type 0 where
  pub joined : AreJoined plans row.dest row.source 0 row.parts
  pub goes_on : GoesOn (plan_at plans (last_part row.parts).epoch) row.dest (last_part row.parts).hops row.fate

-- a packet that is delivered has made the whole of the last walk
abbrev pub HasArrived : List Plan → TraceRow → Type 0
HasArrived plans row = row.fate ≡ Delivered → IsWholeWalk (plan_at plans (last_part row.parts).epoch) row.dest (last_part row.parts).hops

-- with a kind of shortest ways, the last part of a packet that is delivered weighs the distance from its first node
abbrev pub ArrivesShortest : List Plan → TraceRow → Type 0
ArrivesShortest plans row = row.fate ≡ Delivered → IsOfShortestWays (plan_at plans (last_part row.parts).epoch).kind
    → (u : ℕ) × (slice_get (last_part row.parts).hops 0 ≡ Some u)
    × IsDistance (plan_at plans (last_part row.parts).epoch).topology u row.dest (walk_weight (plan_at plans (last_part row.parts).epoch).topology (last_part row.parts).hops)

-- with a kind of landmarks it weighs at most so many percent of that distance as the stretch allows
abbrev pub ArrivesWithin : List Plan → TraceRow → Type 0
ArrivesWithin plans row = row.fate ≡ Delivered → (t : Detour) → (plan_at plans (last_part row.parts).epoch).kind ≡ Landmark t
    → (u : ℕ) × (slice_get (last_part row.parts).hops 0 ≡ Some u)
    × (n : ℕ) × IsDistance (plan_at plans (last_part row.parts).epoch).topology u row.dest n
    × (100 * walk_weight (plan_at plans (last_part row.parts).epoch).topology (last_part row.parts).hops ≤ t.stretch * n)

-- the weight is the sum of the weights of the links between neighbours in the hops
abbrev pub Weighs : Topology → TraceRow → Type 0
Weighs topology row = row.weight ≡ sum_by (λ part. walk_weight topology part.hops) row.parts

-- no row before has the id
abbrev pub HasNewId : List TraceRow → TraceRow → Type 0
HasNewId earlier row = (i : ℕ) (other : TraceRow) → slice_get earlier i ≡ Some other → other.id ≡ row.id → ⊥

-- What a row is found to be, after the rows before it: the first of these that doesn't hold.
abbrev pub IsFindingOf : Topology → List Plan → List TraceRow → TraceRow → FindingKind → Type 0
IsFindingOf topology plans earlier row UnknownEpoch = KnowsEpochs plans row.parts → ⊥
IsFindingOf topology plans earlier row NotAPrefix = KnowsEpochs plans row.parts × (FollowsWalks plans row → ⊥)
IsFindingOf topology plans earlier row NotAtDestination = KnowsEpochs plans row.parts × FollowsWalks plans row × (HasArrived plans row → ⊥)
IsFindingOf topology plans earlier row BadWeight = KnowsEpochs plans row.parts × FollowsWalks plans row × HasArrived plans row × (Weighs topology row → ⊥)
IsFindingOf topology plans earlier row Repeated = KnowsEpochs plans row.parts × FollowsWalks plans row × HasArrived plans row × Weighs topology row × (HasNewId earlier row → ⊥)
IsFindingOf topology plans earlier row kind = ⊥

-- A row of which there is no finding.
pub record IsFine (topology : Topology) (plans : List Plan) (earlier : List TraceRow) (row : TraceRow) : Type 0 where
  pub epochs : KnowsEpochs plans row.parts
  pub walks : FollowsWalks plans row
  pub arrived : HasArrived plans row
  pub weight : Weighs topology row
  pub new : HasNewId earlier row

abbrev pub AreFine : Topology → List Plan → List TraceRow → Type 0
AreFine topology plans rows = (k : ℕ) (row : TraceRow) → slice_get rows k ≡ Some row → IsFine topology plans (take k rows) row

-- The first finding of a trace: the rows before it are fine. Its line is counted from 1, and the first row is in line 2.
pub record IsFirstFinding (topology : Topology) (plans : List Plan) (rows : List TraceRow) (line : ℕ) (kind : FindingKind) : Type 0 where
  pub good : List TraceRow
  pub row : TraceRow
  pub after : List TraceRow
  pub whole : rows ≡ good ++ row ∷ after
  pub before : AreFine topology plans good
  pub number : line ≡ length good + 2
  pub finding : IsFindingOf topology plans good row kind

-- What is found in the rows. Want of memory has line 0.
abbrev pub Finds : Topology → List Install → List TraceRow → ℕ → FindingKind → Type 0
Finds topology installs rows line NoMemory = line ≡ 0
Finds topology installs rows line kind = (plans : List Plan) × ArePlansOf topology installs plans × IsFirstFinding topology plans rows line kind
