-- What contracts see of one epoch's plan: labels, the full table, and the rows of starts that stand for it.
use Rattle.std.specs.Prelude.{◌≡◌, ℕ, ◌<◌, ◌≤◌, Option, None, List, [], length, map, slice_index, slice_index_or, option_and_then}
use Rattle.ir_model.specs.declared.Hop.{Hop}
use Rattle.ir_model.specs.declared.Kind.{Kind}
use Rattle.ir_model.specs.declared.Kind.TheVariants.{Tree, Shortest, Compact, Landmark}
use Rattle.ir_model.specs.Topology.{Topology, node_count, port_at, IsTopology}
use Rattle.ir_model.specs.Walk.{IsConnected}
use Rattle.ir_model.specs.Table.{IsShortestTable, IsPrescribedWalk}
use Rattle.ir_model.specs.Numbering.{IsDepthFirst, neighbors_of}
use Rattle.ir_model.specs.Tree.{IsTreeTable}
use Rattle.ir_model.specs.Row.{Start}
use Rattle.ir_model.specs.Compiled.{IsCanonical}
use Rattle.ir_model.specs.Compact.{IsCompactTable}
use Rattle.ir_model.specs.Landmark.{AreMostLinked, IsLandmarkTable}

-- A plan, which is a routing scheme by intervals. It has the kind and root that it was built with, its network, the
-- nodes by label, the label of each node, the full table's port at each node, by destination, and each node's row.
pub record Plan : Type 0 where
  pub kind : Kind
  pub root : ℕ
  pub topology : Topology
  pub order : List ℕ
  pub labels : List ℕ
  pub table : List (List (Option ℕ))
  pub rows : List (List Start)

-- the label of a node, and the node with a label
abbrev pub label_in : Plan → ℕ → ℕ
label_in s u = slice_index s.labels u

abbrev pub node_in : Plan → ℕ → ℕ
node_in s a = slice_index s.order a

-- the full table's port at (u, d)
abbrev pub table_port : Plan → ℕ → ℕ → Option ℕ
table_port s u d = slice_index_or (slice_index_or s.table u []) d None

-- where the full table sends on what is at u for d
abbrev pub next_hop : Plan → ℕ → ℕ → Option Hop
next_hop s u d = option_and_then (λ p. port_at s.topology u p) (table_port s u d)

-- the row of a node
abbrev pub row_in : Plan → ℕ → List Start
row_in s u = slice_index_or s.rows u []

-- the ports of u by label: the destination list that its row stands for
abbrev pub by_label : Plan → ℕ → List (Option ℕ)
by_label s u = map (table_port s u) s.order

-- the full table of a kind over a network: the shortest table, the tree table of a numbering, the compact table of its
-- labels, or that within the bound by its first node's landmarks
abbrev pub IsTableOf : Kind → Topology → List ℕ → List ℕ → (ℕ → ℕ → Option ℕ) → Type 0
IsTableOf Shortest net order parents table = IsShortestTable net table
IsTableOf Tree net order parents table = IsTreeTable net order parents table
IsTableOf Compact net order parents table = IsCompactTable net order table
IsTableOf (Landmark t) net order parents table =
    (landmarks : List ℕ) × AreMostLinked net (slice_index order 0) t.landmarks landmarks × IsLandmarkTable net landmarks t.stretch order table

-- Each node's label is its place in the order.
pub record AreLabels (n : ℕ) (order labels : List ℕ) : Type 0 where
  pub every_node : length labels ≡ n
  pub every_label : length order ≡ n
  pub node : (a : ℕ) → a < n → slice_index order a < n
  pub label : (u : ℕ) → u < n → slice_index labels u < n
  pub there : (u : ℕ) → u < n → slice_index order (slice_index labels u) ≡ u
  pub back : (a : ℕ) → a < n → slice_index labels (slice_index order a) ≡ a

-- What is true of every plan: each node has one label, the root the first, and in a tree plan the labels are
-- depth-first numbers from the root. Its table is the full table of its kind over its network, whose prescribed walks
-- exist and are short. Its rows are the canonical ones of that table.
pub record IsPlan (s : Plan) : Type 0 where
  pub topology : IsTopology s.topology
  pub connected : IsConnected s.topology
  pub root_in : s.root < node_count s.topology
  pub parents : List ℕ
  pub numbering : s.kind ≡ Tree → IsDepthFirst (neighbors_of s.topology) (node_count s.topology) s.root s.order parents
  pub first : slice_index s.order 0 ≡ s.root
  pub labels : AreLabels (node_count s.topology) s.order s.labels
  pub table : IsTableOf s.kind s.topology s.order parents (table_port s)
  pub walks : (u d : ℕ) → u < node_count s.topology → d < node_count s.topology
      → (walk : List ℕ) × IsPrescribedWalk s.topology (table_port s) u d walk × (length walk ≤ node_count s.topology)
  pub row_of_each : length s.rows ≡ node_count s.topology
  pub rows : (u : ℕ) → u < node_count s.topology → IsCanonical (node_count s.topology) (label_in s u) (by_label s u) (row_in s u)
