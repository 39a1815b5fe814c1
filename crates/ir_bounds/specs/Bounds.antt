-- Bounds that are held as numbers, and the landmark of each node.
use Rattle.std.specs.Prelude.{◌≡◌, ◌⊎◌, ℕ, ◌<◌, List, length, map, slice_index}
use Rattle.std.specs.Global.{Vec}
use Rattle.ir_model.specs.Topology.{Topology, node_count}
use Rattle.ir_model.specs.Landmark.{IsLandmarkOf, IsLandmarkBound}
use Rattle.ir_bounds.specs.declared.landmarks.Owners.{Owners}

-- the lists that vectors hold
abbrev pub held_lists : List (Vec ℕ) → List (List ℕ)
held_lists rows = map (λ row. row.items) rows

-- the landmark of each node, and how far it is
pub record AreOwnersBy (net : Topology) (landmarks nodes radii : List ℕ) : Type 0 where
  pub nodes_len : length nodes ≡ node_count net
  pub radii_len : length radii ≡ node_count net
  pub each : (d : ℕ) → d < node_count net → IsLandmarkOf net landmarks d (slice_index nodes d) (slice_index radii d)

abbrev pub AreOwners : Topology → List ℕ → Owners → Type 0
AreOwners net landmarks owners = AreOwnersBy net landmarks owners.nodes.items owners.radii.items

-- the landmark l, at the distance w, is nearer than m at the distance r, or as near and of a lesser number
abbrev pub IsNearer : ℕ → ℕ → ℕ → ℕ → Type 0
IsNearer l w m r = (w < r) ⊎ ((w ≡ r) × (l < m))

-- at d the landmark l is taken where it is nearer, and else what was there stays
abbrev pub IsKeptNearer : ℕ → List ℕ → List ℕ → List ℕ → List ℕ → List ℕ → ℕ → Type 0
IsKeptNearer l away old_nodes old_radii nodes radii d =
    (IsNearer l (slice_index away d) (slice_index old_nodes d) (slice_index old_radii d) × (slice_index nodes d ≡ l) × (slice_index radii d ≡ slice_index away d))
    ⊎ ((IsNearer l (slice_index away d) (slice_index old_nodes d) (slice_index old_radii d) → ⊥) × (slice_index nodes d ≡ slice_index old_nodes d) × (slice_index radii d ≡ slice_index old_radii d))

-- of the first i nodes
pub record AreKeptNearer (l : ℕ) (away old_nodes old_radii nodes radii : List ℕ) (i : ℕ) : Type 0 where
  pub nodes_len : length nodes ≡ length old_nodes
  pub radii_len : length radii ≡ length old_radii
  pub each : (d : ℕ) → d < i → IsKeptNearer l away old_nodes old_radii nodes radii d

-- the bounds by landmarks from u
pub record AreBoundsFrom (net : Topology) (landmarks : List ℕ) (stretch u : ℕ) (row : List ℕ) : Type 0 where
  pub every : length row ≡ node_count net
  pub each : (d : ℕ) → d < node_count net → IsLandmarkBound net landmarks stretch u d (slice_index row d)
