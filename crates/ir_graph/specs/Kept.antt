-- What each call keeps true of the rows of a graph and the count beside them.
use Rattle.std.specs.Prelude.{◌≡◌, ◌≤◌, ℕ, true, length, bytes_eq}
use Rattle.std.specs.List.{list_all, IsDistinct}
use Rattle.std.specs.Map.{keys_of}
use Rattle.ir_model.specs.Graph.{Name, Adjacency, neighbors, weight_of, edges, is_row}
use Rattle.ir_model.specs.declared.TheConstants.{MAX_NODES, MAX_EDGES}

pub record IsKept (g : Adjacency) (count : ℕ) : Type 0 where
  pub both_ways : (x y : Name) → weight_of g x y ≡ weight_of g y x
  pub neighbors_differ : (x : Name) → IsDistinct bytes_eq (keys_of (neighbors g x))
  pub rows : list_all is_row g ≡ true
  pub node_limit : length g ≤ MAX_NODES
  pub counted : count ≡ length (edges g)
  pub edge_limit : count ≤ MAX_EDGES
