-- Landmarks, and the bound on ways that may go round by the landmark of their end (Cowen 2001, Thorup and Zwick 2001).
use Rattle.std.specs.Prelude.{◌≡◌, ◌≢◌, ℕ, ◌+◌, ◌*◌, ◌<◌, ◌≤◌, ◌⊎◌, ◌++◌, Bool, List, [], length, All, Contains, filter, take, drop, slice_index, ◌==◌, if◌then◌else◌, nat_le, Option, Some}
use Rattle.ir_model.specs.declared.Hop.{Hop}
use Rattle.ir_model.specs.Topology.{Topology, node_count, ports_of, port_at}
use Rattle.ir_model.specs.Numbering.{neighbors_of, IsDepthFirst}
use Rattle.ir_model.specs.Walk.{IsDistance}
use Rattle.ir_model.specs.Within.{IsTableWithin}

-- some nodes of the network, one at least
pub record AreLandmarks (net : Topology) (landmarks : List ℕ) : Type 0 where
  pub some : 0 < length landmarks
  pub nodes : All (λ l. l < node_count net) landmarks

-- each node is at some distance from each
abbrev pub HaveDistances : Topology → Type 0
HaveDistances net = (u d : ℕ) → u < node_count net → d < node_count net → (n : ℕ) × IsDistance net u d n

-- The landmark of d: no other is nearer to it, and none as near has a lesser number. The radius of d is how far it is.
pub record IsLandmarkOf (net : Topology) (landmarks : List ℕ) (d landmark radius : ℕ) : Type 0 where
  pub among : Contains landmarks landmark
  pub away : IsDistance net d landmark radius
  pub nearest : (l r : ℕ) → Contains landmarks l → IsDistance net d l r → (radius < r) ⊎ ((radius ≡ r) × (landmark ≤ l))

-- of the nodes that are not among those before, x has the most ports, and of those with as many the least number
pub record IsMostLinked (net : Topology) (before : List ℕ) (x : ℕ) : Type 0 where
  pub node : x < node_count net
  pub outside : Contains before x → ⊥
  pub most : (v : ℕ) → v < node_count net → (Contains before v → ⊥) → (length (ports_of net v) < length (ports_of net x)) ⊎ ((length (ports_of net v) ≡ length (ports_of net x)) × (x ≤ v))

-- The landmarks of a plan: the root, and after it the most linked nodes; at most so many, and fewer where each node is one.
pub record AreMostLinked (net : Topology) (root count : ℕ) (landmarks : List ℕ) : Type 0 where
  pub root_first : slice_index landmarks 0 ≡ root
  pub some : 0 < length landmarks
  pub enough : length landmarks ≤ count
  pub fewer : length landmarks < count → (v : ℕ) → v < node_count net → Contains landmarks v
  pub next : (i : ℕ) → 0 < i → i < length landmarks → IsMostLinked net (take i landmarks) (slice_index landmarks i)

-- x is a neighbour of v on a shortest way from v to d
abbrev pub IsOnTheWay : Topology → ℕ → ℕ → ℕ → Type 0
IsOnTheWay net v d x =
    (p : ℕ) × (hop : Hop) × (rest : ℕ) × (port_at net v p ≡ Some hop) × (hop.node ≡ x) × IsDistance net x d rest × IsDistance net v d (hop.weight + rest)

-- The parent of v in the tree of its block, the nodes of one landmark. It is, of the neighbours on shortest ways from v
-- to the landmark, the one with the least number. The landmark is its own.
pub record IsBlockParent (net : Topology) (landmarks : List ℕ) (v parent : ℕ) : Type 0 where
  pub landmark : ℕ
  pub radius : ℕ
  pub of_node : IsLandmarkOf net landmarks v landmark radius
  pub itself : v ≡ landmark → parent ≡ v
  pub on_the_way : v ≢ landmark → IsOnTheWay net v landmark parent
  pub least : (x : ℕ) → IsOnTheWay net v landmark x → parent ≤ x

-- the neighbours of u whose parent it is, in port order
abbrev pub sons_of : Topology → (ℕ → ℕ) → ℕ → List ℕ
sons_of net parent u = filter (λ v. parent v == u) (neighbors_of net u)

-- the nodes that may follow u: its sons, and after those of the first landmark the other landmarks
abbrev pub followers : Topology → List ℕ → (ℕ → ℕ) → ℕ → List ℕ
followers net landmarks parent u = sons_of net parent u ++ (if slice_index landmarks 0 == u then drop 1 landmarks else [])

-- The labels of a landmark plan: the nodes of each landmark in turn, depth first in the tree of its block.
pub record AreBlocks (net : Topology) (landmarks order : List ℕ) : Type 0 where
  pub parent : ℕ → ℕ
  pub parents : (v : ℕ) → v < node_count net → IsBlockParent net landmarks v (parent v)
  pub places : List ℕ
  pub depth_first : IsDepthFirst (followers net landmarks parent) (node_count net) (slice_index landmarks 0) order places

-- a stretch, in percent: how long a way may be, of the distance
abbrev pub IsPathStretch : ℕ → Type 0
IsPathStretch stretch = (100 ≤ stretch) × (stretch ≤ 300)

-- So far away that twice the radius more is within the stretch.
abbrev pub is_far : ℕ → ℕ → ℕ → Bool
is_far stretch away radius = nat_le (100 * (away + 2 * radius)) (stretch * away)

-- the bound on the way to d, by the distances to d, from d to its landmark, and to that landmark
abbrev pub bound_by : ℕ → ℕ → ℕ → ℕ → ℕ
bound_by stretch away radius around = if is_far stretch away radius then around + radius else away

-- The bound from u to d: where d is far from u, the weight of a way by the landmark of d, and else the distance.
pub record IsLandmarkBound (net : Topology) (landmarks : List ℕ) (stretch u d bound : ℕ) : Type 0 where
  pub landmark : ℕ
  pub radius : ℕ
  pub away : ℕ
  pub around : ℕ
  pub of_end : IsLandmarkOf net landmarks d landmark radius
  pub direct : IsDistance net u d away
  pub to_landmark : IsDistance net u landmark around
  pub is : bound ≡ bound_by stretch away radius around

-- The full table of a landmark plan.
abbrev pub IsLandmarkTable : Topology → List ℕ → ℕ → List ℕ → (ℕ → ℕ → Option ℕ) → Type 0
IsLandmarkTable net landmarks stretch order table = IsTableWithin net (IsLandmarkBound net landmarks stretch) order table
