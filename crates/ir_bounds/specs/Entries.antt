-- The entries that the part of a node is made of.
use Rattle.std.specs.Prelude.{◌≡◌, ◌≢◌, ◌⊎◌, ℕ, ◌+◌, ◌*◌, ◌<◌, ◌≤◌, List, length, slice_index}
use Rattle.ir_model.specs.Topology.{Topology}
use Rattle.ir_model.specs.Landmark.{IsLandmarkBound}
use Rattle.ir_bounds.specs.Near.{IsWayRound, halved_at, entry_node, entry_bound}

-- so many entries with names: of the first i nodes those to which the bound from u may be less than the way round
pub record AreNearEntries (net : Topology) (landmarks : List ℕ) (stretch u i count : ℕ) (xs : List ℕ) : Type 0 where
  pub long : length xs ≡ 3 * count
  pub few : count ≤ i
  pub each : (j : ℕ) → j < count → (slice_index xs (3 * j + 2) < i) × IsLandmarkBound net landmarks stretch u (slice_index xs (3 * j + 2)) (halved_at xs (3 * j))
  pub rest : (d : ℕ) → d < i → ((way : ℕ) → IsWayRound net landmarks u d way → IsLandmarkBound net landmarks stretch u d way) ⊎ ((j : ℕ) × (j < count) × (slice_index xs (3 * j + 2) ≡ d))

-- the bounds from u to the first i nodes
pub record AreAllEntries (net : Topology) (landmarks : List ℕ) (stretch u i : ℕ) (xs : List ℕ) : Type 0 where
  pub long : length xs ≡ 2 * i
  pub each : (d : ℕ) → d < i → IsLandmarkBound net landmarks stretch u d (halved_at xs (2 * d))

-- at the node of each of the first i entries of a part is the bound of one to it, and at other places what was there
abbrev pub ArePutAt : List ℕ → ℕ → ℕ → List ℕ → List ℕ → ℕ → Type 0
ArePutAt xs b i old row d =
    ((j : ℕ) × (j < i) × (entry_node xs b j ≡ d) × (slice_index row d ≡ entry_bound xs b j))
    ⊎ (((j : ℕ) → j < i → entry_node xs b j ≢ d) × (slice_index row d ≡ slice_index old d))

pub record ArePut (xs : List ℕ) (b i : ℕ) (old row : List ℕ) : Type 0 where
  pub every : length row ≡ length old
  pub each : (d : ℕ) → ArePutAt xs b i old row d
