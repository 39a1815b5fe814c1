-- Tables whose ways keep to a bound, and the one of them that has the fewest intervals at each node.
use Rattle.std.specs.Prelude.{◌≡◌, ◌≢◌, ℕ, ◌+◌, ◌<◌, ◌≤◌, Option, Some, None, List, map, slice_index}
use Rattle.ir_model.specs.declared.Hop.{Hop}
use Rattle.ir_model.specs.Topology.{Topology, node_count, port_at}
use Rattle.ir_model.specs.Choices.{AreChosen}

-- Port p of u leads to a node w with weight(u,w) + bound(w,d) ≤ bound(u,d). Here and below `bound u d b` says that b is
-- the bound from u to d.
abbrev pub LeadsWithin : Topology → (ℕ → ℕ → ℕ → Type 0) → ℕ → ℕ → ℕ → Type 0
LeadsWithin net bound u d p =
    (hop : Hop) × (rest : ℕ) × (whole : ℕ) × (port_at net u p ≡ Some hop) × bound hop.node d rest × bound u d whole × (hop.weight + rest ≤ whole)

-- There is one bound from a node to a node.
abbrev pub IsOneBound : (ℕ → ℕ → ℕ → Type 0) → Type 0
IsOneBound bound = (u d a b : ℕ) → bound u d a → bound u d b → a ≡ b

-- A bound that can be kept: there is one from a node to a node, it is 0 from a node to itself, and from each other node
-- some port leads within it.
pub record IsKeepable (net : Topology) (bound : ℕ → ℕ → ℕ → Type 0) : Type 0 where
  pub one : IsOneBound bound
  pub own : (d : ℕ) → d < node_count net → bound d d 0
  pub port : (u d : ℕ) → u < node_count net → d < node_count net → u ≢ d → (p : ℕ) × LeadsWithin net bound u d p

-- A table that keeps to a bound: at (u,d) with u ≠ d a port that leads within it, and none at (d,d).
pub record KeepsBound (net : Topology) (bound : ℕ → ℕ → ℕ → Type 0) (table : ℕ → ℕ → Option ℕ) : Type 0 where
  pub own : (d : ℕ) → d < node_count net → table d d ≡ None
  pub port : (u d : ℕ) → u < node_count net → d < node_count net → u ≢ d → (p : ℕ) × (table u d ≡ Some p) × LeadsWithin net bound u d p

-- at the node with the label a, the label d may take the port p: it leads within the bound
abbrev pub MayLead : Topology → (ℕ → ℕ → ℕ → Type 0) → List ℕ → ℕ → ℕ → ℕ → Type 0
MayLead net bound order a d p = LeadsWithin net bound (slice_index order a) (slice_index order d) p

-- The table of the nodes in order of their labels that keeps to a bound with the fewest intervals. The ports of each
-- node are, by label, the chosen ones of those that lead within it.
pub record IsTableWithin (net : Topology) (bound : ℕ → ℕ → ℕ → Type 0) (order : List ℕ) (table : ℕ → ℕ → Option ℕ) : Type 0 where
  pub keeps : KeepsBound net bound table
  pub chosen : (a : ℕ) → a < node_count net → AreChosen (node_count net) a (MayLead net bound order a) (map (table (slice_index order a)) order)
