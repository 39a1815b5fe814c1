-- The full table that rows of starts stand for, and the plan that numbers and rows make.
use Rattle.std.specs.Prelude.{◌≡◌, ◌≢◌, ◌==◌, IsSome, ℕ, ◌<◌, ◌≤◌, Bool, ◌&&◌, ◌||◌, nat_lt, nat_le, if◌then◌else◌, Option, None, List, [], length, map, find, option_map, slice_index, slice_index_or}
use Rattle.std.specs.List.{range_with_len}
use Rattle.ir_model.specs.declared.Kind.{Kind}
use Rattle.ir_model.specs.Topology.{Topology, node_count}
use Rattle.ir_model.specs.Interval.{PortInterval}
use Rattle.ir_model.specs.Row.{Start, intervals_of}
use Rattle.ir_model.specs.Compiled.{IsCanonical}
use Rattle.ir_model.specs.Table.{IsPrescribedWalk}
use Rattle.ir_model.specs.Plan.{Plan, IsTableOf}

-- whether the cyclic interval has the label d
abbrev pub has_label : ℕ → PortInterval → Bool
has_label d m = if nat_lt m.start m.end then (nat_le m.start d && nat_lt d m.end) else (nat_le m.start d || nat_lt d m.end)

-- the row's port at a label: that of the interval that has it
unfoldable pub row_port : List Start → ℕ → Option ℕ
row_port row d = option_map (λ (m : PortInterval). m.port) (find (has_label d) (intervals_of row))

-- the rows' port at (u, d): none where u is d, else that of u's row at the label of d
abbrev pub shown_port : List ℕ → List (List Start) → ℕ → ℕ → Option ℕ
shown_port labels rows u d = if u == d then None else row_port (slice_index_or rows u []) (slice_index labels d)

-- the full table that the rows of n nodes stand for
unfoldable pub shown_table : ℕ → List ℕ → List (List Start) → List (List (Option ℕ))
shown_table n labels rows = map (λ u. map (shown_port labels rows u) (range_with_len 0 n)) (range_with_len 0 n)

-- the plan of these numbers and rows
abbrev pub plan_with : Kind → ℕ → Topology → List ℕ → List ℕ → List (List Start) → Plan
plan_with kind root topology order labels rows = record {
  kind = kind;
  root = root;
  topology = topology;
  order = order;
  labels = labels;
  table = shown_table (node_count topology) labels rows;
  rows = rows;
}

-- each node's row is the canonical one of its ports in a table, by label
pub record AreRows (n : ℕ) (order labels : List ℕ) (table : ℕ → ℕ → Option ℕ) (rows : List (List Start)) : Type 0 where
  pub every : length rows ≡ n
  pub canonical : (u : ℕ) → u < n → IsCanonical n (slice_index labels u) (map (table u) order) (slice_index_or rows u [])

-- a table names a port at each pair of two nodes, and none at a pair of one
pub record IsFullTable (n : ℕ) (table : ℕ → ℕ → Option ℕ) : Type 0 where
  pub own : (d : ℕ) → d < n → table d d ≡ None
  pub some : (u d : ℕ) → u < n → d < n → u ≢ d → IsSome (table u d)

-- the rows stand for a full table of a kind, whose prescribed walks exist and are short
abbrev pub StandForTable : Kind → Topology → List ℕ → List ℕ → List ℕ → List (List Start) → Type 0
StandForTable kind topology order parents labels rows =
    (table : ℕ → ℕ → Option ℕ) × IsTableOf kind topology order parents table
    × ((u d : ℕ) → u < node_count topology → d < node_count topology → (walk : List ℕ) × IsPrescribedWalk topology table u d walk × (length walk ≤ node_count topology))
    × AreRows (node_count topology) order labels table rows
