-- What a search shows by its marks.
use Rattle.std.specs.Prelude.{◌≡◌, ℕ, ◌<◌, List, [], Bool, true, false, All, Contains, length, map, slice_index, slice_index_or}
use Rattle.std.specs.Global.{Vec}
use Rattle.ir_model.specs.Topology.{Topology, node_count}
use Rattle.ir_model.specs.Walk.{IsWalk}

-- x is the first of these nodes without a mark
pub record IsFirstUnmarked (marks : List Bool) (nodes : List ℕ) (x : ℕ) : Type 0 where
  pub port : ℕ
  pub below : port < length nodes
  pub is : slice_index nodes port ≡ x
  pub unmarked : slice_index_or marks x true ≡ false
  pub first : (k : ℕ) → k < port → slice_index_or marks (slice_index nodes k) false ≡ true

-- the first so many of these nodes have marks
abbrev pub FirstMarked : List Bool → List ℕ → ℕ → Type 0
FirstMarked marks nodes count = (k : ℕ) → k < count → slice_index_or marks (slice_index nodes k) false ≡ true

-- all these nodes have marks
abbrev pub AllMarked : List Bool → List ℕ → Type 0
AllMarked marks nodes = FirstMarked marks nodes (length nodes)

-- of these nodes the one at this place is the first without a mark
pub record IsUnmarkedAt (marks : List Bool) (nodes : List ℕ) (place : ℕ) : Type 0 where
  pub below : place < length nodes
  pub unmarked : slice_index_or marks (slice_index nodes place) true ≡ false
  pub first : FirstMarked marks nodes place

-- the list at a place
abbrev pub list_at : List (Vec ℕ) → ℕ → List ℕ
list_at lists u = slice_index_or (map (λ list. list.items) lists) u []

-- each list has places of lists alone
abbrev pub AreAdjacent : List (Vec ℕ) → Type 0
AreAdjacent lists = (u : ℕ) → u < length lists → All (λ v. v < length lists) (list_at lists u)

-- of each node the first so many neighbours have marks
pub record ArePassed (lists : List (Vec ℕ)) (marks : List Bool) (passed : List ℕ) : Type 0 where
  pub every : length passed ≡ length lists
  pub each : (u : ℕ) → u < length lists → FirstMarked marks (list_at lists u) (slice_index passed u)

-- the root is one of the nodes, and each neighbour of one is one
pub record IsClosed (adjacent : ℕ → List ℕ) (root : ℕ) (nodes : List ℕ) : Type 0 where
  pub root_in : Contains nodes root
  pub closed : (u v : ℕ) → Contains nodes u → Contains (adjacent u) v → Contains nodes v

-- some node is cut off from the root: no walk leads to it
abbrev pub IsOneCutOff : Topology → ℕ → Type 0
IsOneCutOff topology root = (v : ℕ) × (v < node_count topology) × ((walk : List ℕ) → IsWalk topology root v walk → ⊥)
