-- Depth-first numberings of a network.
use Rattle.std.specs.Prelude.{◌≡◌, ◌≢◌, ℕ, ◌<◌, List, length, All, AllPairs, Contains, map, take, slice_index}
use Rattle.ir_model.specs.declared.Hop.{Hop}
use Rattle.ir_model.specs.Topology.{Topology, ports_of}

-- the neighbours of a node in port order
abbrev pub neighbors_of : Topology → ℕ → List ℕ
neighbors_of net u = map (λ (hop : Hop). hop.node) (ports_of net u)

-- x is the first of these nodes that is not among those seen
pub record IsFirstOutside (seen nodes : List ℕ) (x : ℕ) : Type 0 where
  pub port : ℕ
  pub below : port < length nodes
  pub is : slice_index nodes port ≡ x
  pub outside : Contains seen x → ⊥
  pub first : (k : ℕ) → k < port → Contains seen (slice_index nodes k)

-- all these nodes are among those seen
abbrev pub NoneOutside : List ℕ → List ℕ → Type 0
NoneOutside seen nodes = (k : ℕ) → k < length nodes → Contains seen (slice_index nodes k)

-- of the places of the nodes seen, j is the greatest whose node has a neighbour outside, and x is the first such neighbour
pub record IsNext (adjacent : ℕ → List ℕ) (seen : List ℕ) (x j : ℕ) : Type 0 where
  pub below : j < length seen
  pub neighbor : IsFirstOutside seen (adjacent (slice_index seen j)) x
  pub greatest : (k : ℕ) → j < k → k < length seen → NoneOutside seen (adjacent (slice_index seen k))

-- a list of all n nodes, each once, the root first, and each other one the next after those before it; parents has the place of each one's parent
pub record IsDepthFirst (adjacent : ℕ → List ℕ) (n root : ℕ) (order parents : List ℕ) : Type 0 where
  pub every : length order ≡ n
  pub parented : length parents ≡ n
  pub nodes : All (λ v. v < n) order
  pub once : AllPairs (λ u v. u ≢ v) order
  pub root_first : slice_index order 0 ≡ root
  pub next : (i : ℕ) → 0 < i → i < n → IsNext adjacent (take i order) (slice_index order i) (slice_index parents i)
