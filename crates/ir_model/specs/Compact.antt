-- The table of shortest ways with the fewest intervals at each node.
use Rattle.std.specs.Prelude.{ℕ, ◌<◌, Option, List, map, slice_index}
use Rattle.ir_model.specs.Topology.{Topology, node_count}
use Rattle.ir_model.specs.Table.{LeadsNearer, IsNearerTable}
use Rattle.ir_model.specs.Choices.{AreChosen}

-- at the node with the label a, the port p is one of the tied ones for the label d: it leads nearer
abbrev pub IsTied : Topology → List ℕ → ℕ → ℕ → ℕ → Type 0
IsTied net order a d p = LeadsNearer net (slice_index order a) (slice_index order d) p

-- A compact table of the nodes in order of their labels: its ports lead nearer, and those of each node are, by label, the
-- chosen ones of its tied ports.
pub record IsCompactTable (net : Topology) (order : List ℕ) (table : ℕ → ℕ → Option ℕ) : Type 0 where
  pub nearer : IsNearerTable net table
  pub chosen : (a : ℕ) → a < node_count net → AreChosen (node_count net) a (IsTied net order a) (map (table (slice_index order a)) order)
