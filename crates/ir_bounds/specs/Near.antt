-- The bounds of a node to those that are near to it, in lists of numbers of 16 bits; and the ways round, which are the
-- bounds to the others.
use Rattle.std.specs.Prelude.{◌≡◌, ◌⊎◌, ℕ, zero, suc, ◌+◌, ◌-◌, ◌*◌, ◌<◌, ◌≤◌, ◌==◌, Bool, min, if◌then◌else◌, List, [], length, slice_index, slice_index_or}
use Rattle.ir_model.specs.Topology.{Topology, node_count}
use Rattle.ir_model.specs.Walk.{IsDistance}
use Rattle.ir_model.specs.Landmark.{IsLandmarkOf, IsLandmarkBound}

-- the weight of the way from u to d by the landmark of d
pub record IsWayRound (net : Topology) (landmarks : List ℕ) (u d way : ℕ) : Type 0 where
  pub landmark : ℕ
  pub radius : ℕ
  pub around : ℕ
  pub of_end : IsLandmarkOf net landmarks d landmark radius
  pub to_landmark : IsDistance net u landmark around
  pub is : way ≡ around + radius

-- the ways round from u
pub record AreWaysRound (net : Topology) (landmarks : List ℕ) (u : ℕ) (row : List ℕ) : Type 0 where
  pub every : length row ≡ node_count net
  pub each : (d : ℕ) → d < node_count net → IsWayRound net landmarks u d (slice_index row d)

-- the number at a place, in two halves, the low one first
abbrev pub halved_at : List ℕ → ℕ → ℕ
halved_at xs i = slice_index xs i + 65536 * slice_index xs (i + 1)

-- A part of a list has the number of its entries, the size of each, and these. An entry is a bound in two halves, and
-- after it the node; entries of size 2 are those of all nodes, in order.
abbrev pub has_all : List ℕ → ℕ → Bool
has_all xs b = slice_index xs (b + 1) == 2

-- where the part that begins at b ends
abbrev pub part_end : List ℕ → ℕ → ℕ
part_end xs b = b + 2 + (if has_all xs b then 2 * slice_index xs b else 3 * slice_index xs b)

-- the node of the entry j, and the bound to it
abbrev pub entry_node : List ℕ → ℕ → ℕ → ℕ
entry_node xs b j = if has_all xs b then j else slice_index xs (b + 2 + 3 * j + 2)

abbrev pub entry_bound : List ℕ → ℕ → ℕ → ℕ
entry_bound xs b j = if has_all xs b then halved_at xs (b + 2 + 2 * j) else halved_at xs (b + 2 + 3 * j)

-- where the part after so many begins
abbrev pub begin_of : List ℕ → ℕ → ℕ
begin_of xs zero = 0
begin_of xs (suc k) = part_end xs (begin_of xs k)

-- so many nodes and bounds are those from u to them, and to each other node the bound is the way round
pub record AreNearBounds (net : Topology) (landmarks : List ℕ) (stretch u count : ℕ) (node bound : ℕ → ℕ) : Type 0 where
  pub each : (j : ℕ) → j < count → (node j < node_count net) × IsLandmarkBound net landmarks stretch u (node j) (bound j)
  pub rest : (d : ℕ) → d < node_count net → ((way : ℕ) → IsWayRound net landmarks u d way → IsLandmarkBound net landmarks stretch u d way) ⊎ ((j : ℕ) × (j < count) × (node j ≡ d))

-- such are the entries of the part that begins at b
pub record AreNearAt (net : Topology) (landmarks : List ℕ) (stretch u : ℕ) (xs : List ℕ) (b : ℕ) : Type 0 where
  pub within : part_end xs b ≤ length xs
  pub near : AreNearBounds net landmarks stretch u (slice_index xs b) (entry_node xs b) (entry_bound xs b)

-- a list of one part, that of u
pub record IsNearPart (net : Topology) (landmarks : List ℕ) (stretch u : ℕ) (part : List ℕ) : Type 0 where
  pub at : AreNearAt net landmarks stretch u part 0
  pub whole : part_end part 0 ≡ length part

-- a list of so many parts: those of the nodes from `first` on
pub record AreNearParts (net : Topology) (landmarks : List ℕ) (stretch first count : ℕ) (xs : List ℕ) : Type 0 where
  pub each : (k : ℕ) → k < count → AreNearAt net landmarks stretch (first + k) xs (begin_of xs k)
  pub whole : begin_of xs count ≡ length xs

-- the list of a batch of sixteen nodes, or of those that are left
abbrev pub IsNearBatch : Topology → List ℕ → ℕ → ℕ → List ℕ → Type 0
IsNearBatch net landmarks stretch batch xs = AreNearParts net landmarks stretch (batch * 16) (min 16 (node_count net - batch * 16)) xs

-- the lists of all batches
pub record AreNearBatches (net : Topology) (landmarks : List ℕ) (stretch : ℕ) (lists : List (List ℕ)) : Type 0 where
  pub enough : node_count net ≤ length lists * 16
  pub each : (b : ℕ) → b < length lists → IsNearBatch net landmarks stretch b (slice_index_or lists b [])
