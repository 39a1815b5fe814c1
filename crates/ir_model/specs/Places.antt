-- A graph by places: nodes by their place in the order of nodes, neighbours by their place in the row of a node.
use Rattle.std.specs.Prelude.{◌≡◌, ℕ, [], not, bytes_eq, filter, take, option_map, slice_get, Option}
use Rattle.std.specs.Option.{option_map_or}
use Rattle.std.specs.List.{position_or_len}
use Rattle.ir_model.specs.Graph.{Name, Neighbors, Adjacency, names, among, weight_of}

-- the place of a node; past the end where x is no node
abbrev pub place_of : Adjacency → Name → ℕ
place_of g x = position_or_len (bytes_eq x) (names g)

-- the neighbours of the node at a place, in order; none past the end
abbrev pub neighbors_at : Adjacency → ℕ → Neighbors
neighbors_at g i = option_map_or (λ r. r.1) (slice_get g i) []

-- The neighbour at place p of the node at place i: its own place, and the weight of the link to it.
abbrev pub neighbor_at : Adjacency → ℕ → ℕ → Option (ℕ × ℕ)
neighbor_at g i p = option_map {U = ℕ × ℕ} (λ e. (place_of g e.0, e.1)) (slice_get (neighbors_at g i) p)

-- the neighbours of the node at a place that are not before it as nodes
abbrev pub later_neighbors : Adjacency → ℕ → Neighbors
later_neighbors g i = filter (λ e. not (among (take i (names g)) e.0)) (neighbors_at g i)

-- Each link is in the rows of both of its ends, with the same weight.
abbrev pub IsBothWays : Adjacency → Type 0
IsBothWays g = (x y : Name) → weight_of g x y ≡ weight_of g y x
