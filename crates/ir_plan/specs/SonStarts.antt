-- The starts of a node's row in a tree, as they are made: those for its sons by the order of its ports, and the one for its father.
use Rattle.std.specs.Prelude.{◌≡◌, ◌⊎◌, ℕ, ◌<◌, List, All, Contains, slice_index}
use Rattle.ir_model.specs.Topology.{Topology, node_count}
use Rattle.ir_model.specs.Subtree.{IsSubtree}
use Rattle.ir_model.specs.Row.{Start, labels, IsAscending}
use Rattle.ir_numbering.specs.Numbering.{Numbering, IsPortTo}
use Rattle.ir_plan.specs.TreeRows.{subtree_end}

-- a start of u for a son: at the son's label, with the port to it
pub record IsSonStart (topology : Topology) (numbers : Numbering) (u : ℕ) (start : Start) : Type 0 where
  pub from : 0 < start.label
  pub label : start.label < node_count topology
  pub son : slice_index numbers.parents start.label ≡ slice_index numbers.labels u
  pub port : IsPortTo topology u start.port (slice_index numbers.order start.label)

-- the start of u for its father, where the labels of the subtree of so many nodes end
pub record IsFatherStart (topology : Topology) (numbers : Numbering) (u size : ℕ) (start : Start) : Type 0 where
  pub from : 0 < slice_index numbers.labels u
  pub label : start.label ≡ subtree_end (node_count topology) (slice_index numbers.labels u) size
  pub port : IsPortTo topology u start.port (slice_index numbers.order (slice_index numbers.parents (slice_index numbers.labels u)))

-- the starts for the sons to which the first ports of u lead
pub record AreSonStarts (topology : Topology) (numbers : Numbering) (u count : ℕ) (row : List Start) : Type 0 where
  pub ascending : IsAscending row
  pub each : All (λ (s : Start). IsSonStart topology numbers u s × (s.port < count)) row
  pub every : (s : Start) → IsSonStart topology numbers u s → s.port < count → Contains (labels row) s.label

-- the starts for all sons of u and for its father
pub record AreTreeStarts (topology : Topology) (numbers : Numbering) (u : ℕ) (row : List Start) : Type 0 where
  pub size : ℕ
  pub subtree : IsSubtree (node_count topology) numbers.parents (slice_index numbers.labels u) size
  pub ascending : IsAscending row
  pub each : All (λ (s : Start). IsSonStart topology numbers u s ⊎ IsFatherStart topology numbers u size s) row
  pub sons : (c : ℕ) → 0 < c → c < node_count topology → slice_index numbers.parents c ≡ slice_index numbers.labels u → Contains (labels row) c
  pub father : 0 < slice_index numbers.labels u → Contains (labels row) (subtree_end (node_count topology) (slice_index numbers.labels u) size)
