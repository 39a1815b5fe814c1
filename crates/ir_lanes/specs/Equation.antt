-- The equation of the least weights (Bellman 1958).
use Rattle.std.specs.Prelude.{◌≡◌, ◌≢◌, ◌⊎◌, ℕ, ◌+◌, ◌*◌, ◌<◌, ◌≤◌, Some, List}
use Rattle.ir_model.specs.declared.Hop.{Hop}
use Rattle.ir_model.specs.Topology.{Topology, node_count, port_at}
use Rattle.ir_lanes.specs.Lanes.{in_lane, far}

-- At a node f is the least of what the node starts with and what its ports offer, and near. A port's weight counts `unit` times.
pub record IsLeastAt (net : Topology) (unit : ℕ) (start f : ℕ → ℕ) (u : ℕ) : Type 0 where
  pub near : f u < far
  pub low : f u ≤ start u
  pub tight : (p : ℕ) (hop : Hop) → port_at net u p ≡ Some hop → f u ≤ hop.weight * unit + f hop.node
  pub met : (f u ≡ start u) ⊎ ((p : ℕ) × (hop : Hop) × (port_at net u p ≡ Some hop) × (f u ≡ hop.weight * unit + f hop.node))

-- the equation holds at each node
abbrev pub IsLeast : Topology → ℕ → (ℕ → ℕ) → (ℕ → ℕ) → Type 0
IsLeast net unit start f = (u : ℕ) → u < node_count net → IsLeastAt net unit start f u

-- the equation holds at a node in all lanes
abbrev pub IsMet : Topology → ℕ → List ℕ → List ℕ → ℕ → Type 0
IsMet net unit starts lanes u = (k : ℕ) → k < 16 → IsLeastAt net unit (in_lane starts k) (in_lane lanes k) u

-- the equation holds in all lanes
abbrev pub AreMet : Topology → ℕ → List ℕ → List ℕ → Type 0
AreMet net unit starts lanes = (k : ℕ) → k < 16 → IsLeast net unit (in_lane starts k) (in_lane lanes k)

-- one node has 0, and each other what is far
pub record IsEndStart (net : Topology) (d : ℕ) (start : ℕ → ℕ) : Type 0 where
  pub end : start d ≡ 0
  pub others : (v : ℕ) → v < node_count net → v ≢ d → far ≤ start v

-- each neighbour of s has the weight of the port to it, and after it the port; what is near is at a neighbour
pub record IsSourceStart (net : Topology) (unit s : ℕ) (start : ℕ → ℕ) : Type 0 where
  pub below : (p : ℕ) (hop : Hop) → port_at net s p ≡ Some hop → start hop.node ≤ hop.weight * unit + p
  pub met : (v : ℕ) → v < node_count net → start v < far
      → (p : ℕ) × (hop : Hop) × (port_at net s p ≡ Some hop) × (hop.node ≡ v) × (start v ≡ hop.weight * unit + p)
