-- The distances of nodes as destinations, and the columns of ports that they are counted by.
use Rattle.std.specs.Prelude.{◌≡◌, ℕ, ◌<◌, not, ◌==◌, Option, Some, None, List, [], length, map, count_by, slice_index, slice_index_or}
use Rattle.std.specs.Global.{Vec}
use Rattle.std.specs.List.{range_with_len}
use Rattle.ir_model.specs.Topology.{Topology, node_count}
use Rattle.ir_model.specs.Table.{IsShortestTable}
use Rattle.ir_plan.specs.Tour.{difference}
use Rattle.ir_plan.specs.declared.distances.TheConstants.{NO_PORT}

-- the lists that vectors hold
abbrev pub lists_of : List (Vec ℕ) → List (List ℕ)
lists_of rows = map (λ row. row.items) rows

-- the distances of a node to each, and of two nodes, in rows of them
abbrev pub far_from : List (Vec ℕ) → ℕ → List ℕ
far_from rows a = slice_index_or (lists_of rows) a []

abbrev pub far_between : List (Vec ℕ) → ℕ → ℕ → ℕ
far_between rows a b = slice_index (far_from rows a) b

-- what is in a column for a port
abbrev pub column_port : Option ℕ → ℕ
column_port None = NO_PORT
column_port (Some p) = p

-- the ports of n nodes to d
pub record IsPortColumn (n : ℕ) (table : ℕ → ℕ → Option ℕ) (d : ℕ) (column : List ℕ) : Type 0 where
  pub every : length column ≡ n
  pub port : (u : ℕ) → u < n → slice_index column u ≡ column_port (table u d)

pub record AreColumns (n : ℕ) (table : ℕ → ℕ → Option ℕ) (columns : List (List ℕ)) : Type 0 where
  pub every : length columns ≡ n
  pub each : (d : ℕ) → d < n → IsPortColumn n table d (slice_index_or columns d [])

-- at how many places two columns differ
unfoldable pub unlike : List ℕ → List ℕ → ℕ
unlike column other = count_by (λ u. not (slice_index column u == slice_index other u)) (range_with_len 0 (length column))

-- how many places of a column differ from those of each column
pub record IsRow (columns : List (List ℕ)) (column row : List ℕ) : Type 0 where
  pub every : length row ≡ length columns
  pub each : (b : ℕ) → b < length columns → slice_index row b ≡ unlike column (slice_index_or columns b [])

pub record AreDistances (columns rows : List (List ℕ)) : Type 0 where
  pub every : length rows ≡ length columns
  pub each : (a : ℕ) → a < length columns → IsRow columns (slice_index_or columns a []) (slice_index_or rows a [])

-- the differences of a network's nodes in its shortest table
abbrev pub AreShortestDistances : Topology → (ℕ → ℕ → ℕ) → Type 0
AreShortestDistances topology far =
    (table : ℕ → ℕ → Option ℕ) × IsShortestTable topology table
    × ((a b : ℕ) → a < node_count topology → b < node_count topology → far a b ≡ difference (node_count topology) table a b)
