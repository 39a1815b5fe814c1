-- The rows of tree plans (Santoro and Khatib 1985).
use Rattle.std.specs.Prelude.{◌≡◌, ◌≢◌, ◌⊎◌, ℕ, ◌+◌, ◌-◌, List, AllPairs, Contains}
use Rattle.ir_model.specs.Topology.{node_count}
use Rattle.ir_model.specs.Numbering.{IsDepthFirst, neighbors_of}
use Rattle.ir_model.specs.Subtree.{IsSubtree}
use Rattle.ir_model.specs.Tree.{IsParent}
use Rattle.ir_model.specs.Row.{Start, start_ports}
use Rattle.ir_model.specs.Compiled.{label_after}
use Rattle.ir_model.specs.Plan.{Plan, label_in, row_in}
use Rattle.ir_numbering.specs.Numbering.{IsPortTo}

-- the label at which the subtree of so many nodes of the node with the label a ends, in cyclic order
abbrev pub subtree_end : ℕ → ℕ → ℕ → ℕ
subtree_end n a size = label_after n (a + size - 1)

-- the row has the start
abbrev pub HasStart : List Start → ℕ → ℕ → Type 0
HasStart row label port = Contains row (let start : Start = record { label = label; port = port } in start)

-- The row of u has a start for each son, at the son's label and with the port to it. It has one for the father, where
-- the labels of the subtree of u end and with the port to it. It has no other start, and no two with one port.
pub record IsTreeRow (plan : Plan) (parents : List ℕ) (size u : ℕ) : Type 0 where
  pub numbering : IsDepthFirst (neighbors_of plan.topology) (node_count plan.topology) plan.root plan.order parents
  pub subtree : IsSubtree (node_count plan.topology) parents (label_in plan u) size
  pub sons : (w : ℕ) → IsParent plan.order parents w u → (p : ℕ) × IsPortTo plan.topology u p w × HasStart (row_in plan u) (label_in plan w) p
  pub father : (v : ℕ) → IsParent plan.order parents u v
      → (p : ℕ) × IsPortTo plan.topology u p v × HasStart (row_in plan u) (subtree_end (node_count plan.topology) (label_in plan u) size) p
  pub no_other : (start : Start) → Contains (row_in plan u) start → (v : ℕ) × IsPortTo plan.topology u start.port v
      × ((IsParent plan.order parents v u × (start.label ≡ label_in plan v))
      ⊎ (IsParent plan.order parents u v × (start.label ≡ subtree_end (node_count plan.topology) (label_in plan u) size)))
  pub one_each : AllPairs (λ p q. p ≢ q) (start_ports (row_in plan u))

-- the row of u is that of a tree: of the tree of some depth-first numbering of these nodes and labels
abbrev pub HasTreeRow : Plan → ℕ → Type 0
HasTreeRow plan u = (parents : List ℕ) × (size : ℕ) × IsTreeRow plan parents size u
