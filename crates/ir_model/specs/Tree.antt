-- The tree of a numbering, and the table that routes along it.
use Rattle.std.specs.Prelude.{◌≡◌, ◌≢◌, ◌⊎◌, ℕ, ◌<◌, Option, Some, None, List, [], ◌∷◌, length, AllPairs, slice_index}
use Rattle.ir_model.specs.declared.Hop.{Hop}
use Rattle.ir_model.specs.Topology.{Topology, node_count, port_at}

-- Node v is the parent of node u: the places of both are those of a place and its parent.
abbrev pub IsParent : List ℕ → List ℕ → ℕ → ℕ → Type 0
IsParent order parents u v = (i : ℕ) × (0 < i) × (i < length order) × (slice_index order i ≡ u) × (slice_index order (slice_index parents i) ≡ v)

-- one of the two nodes is the other's parent
abbrev pub IsTreeStep : List ℕ → List ℕ → ℕ → ℕ → Type 0
IsTreeStep order parents u v = IsParent order parents u v ⊎ IsParent order parents v u

-- From u on, each node of the list is the one before it's parent or child, and the last one is d.
abbrev pub LeadsInTree : List ℕ → List ℕ → ℕ → ℕ → List ℕ → Type 0
LeadsInTree order parents u d [] = u ≡ d
LeadsInTree order parents u d (v ∷ rest) = IsTreeStep order parents u v × LeadsInTree order parents v d rest

-- The path in the tree from u to d: a list without repetition whose steps join a node and its parent.
abbrev pub IsTreePath : List ℕ → List ℕ → ℕ → ℕ → List ℕ → Type 0
IsTreePath order parents u d [] = ⊥
IsTreePath order parents u d (x ∷ rest) = (x ≡ u) × LeadsInTree order parents u d rest × AllPairs (λ a b. a ≢ b) (x ∷ rest)

-- A tree table: at (u,d) with u ≠ d the port to the second node of the path in the tree, and none at (d,d).
pub record IsTreeTable (net : Topology) (order parents : List ℕ) (table : ℕ → ℕ → Option ℕ) : Type 0 where
  pub own : (d : ℕ) → d < node_count net → table d d ≡ None
  pub port : (u d : ℕ) → u < node_count net → d < node_count net → u ≢ d
      → (p : ℕ) × (hop : Hop) × (rest : List ℕ) × (table u d ≡ Some p) × (port_at net u p ≡ Some hop) × IsTreePath order parents u d (u ∷ hop.node ∷ rest)
