-- What a search from the first node of a graph has reached, as places of nodes.
use Rattle.std.specs.Prelude.{◌≡◌, ◌<◌, ◌++◌, ℕ, nat_eq, true, length, List, Some, slice_get}
use Rattle.std.specs.List.{list_any, IsDistinct}
use Rattle.ir_model.specs.Graph.{Name, Adjacency, names}
use Rattle.ir_model.specs.Places.{neighbor_at, neighbors_at}
use Rattle.ir_graph.specs.Paths.{IsPath}

-- the place is among these
abbrev pub HasPlace : List ℕ → ℕ → Type 0
HasPlace places i = list_any (nat_eq i) places ≡ true

-- a path leads from the first node to the one at this place
pub record HasWay (g : Adjacency) (i : ℕ) : Type 0 where
  pub first : Name
  pub last : Name
  pub path : List Name
  pub first_at : slice_get (names g) 0 ≡ Some first
  pub last_at : slice_get (names g) i ≡ Some last
  pub way : IsPath g first last path

-- The places differ, and a path leads from the first node to the one at each.
pub record AreReached (g : Adjacency) (places : List ℕ) : Type 0 where
  pub differ : IsDistinct nat_eq places
  pub ways : (i : ℕ) → HasPlace places i → HasWay g i

-- the neighbours before place p of the node at place i are among the places
abbrev pub HasNeighbors : Adjacency → List ℕ → ℕ → ℕ → Type 0
HasNeighbors g places i p = (q j w : ℕ) → q < p → neighbor_at g i q ≡ Some (j, w) → HasPlace places j

-- with each of the places each neighbour of its node
abbrev pub AreClosed : Adjacency → List ℕ → Type 0
AreClosed g places = (i : ℕ) → HasPlace places i → HasNeighbors g places i (length (neighbors_at g i))

-- the places so far, and perhaps more after them
abbrev pub HasMoreBehind : List ℕ → List ℕ → Type 0
HasMoreBehind before after = (more : List ℕ) × (after ≡ before ++ more)
