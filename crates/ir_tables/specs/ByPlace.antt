-- The neighbours of a graph's nodes by their places.
use Rattle.std.specs.Prelude.{ℕ, List, map}
use Rattle.ir_model.specs.Graph.{Neighbors, Adjacency}
use Rattle.ir_model.specs.Places.{place_of}
use Rattle.ir_tables.specs.Numbered.{Numbers}

-- neighbours by their places
abbrev pub row_numbers : Adjacency → Neighbors → Numbers
row_numbers g es = map {B = ℕ × ℕ} (λ e. (place_of g e.0, e.1)) es

-- the neighbours of each node, by their places
abbrev pub neighbor_rows : Adjacency → List Numbers
neighbor_rows g = map (λ r. row_numbers g r.1) g
