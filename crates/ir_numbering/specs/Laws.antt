-- Subtrees and the starts of tree rows, in words of nodes and labels (Santoro and Khatib 1985).
use Rattle.std.specs.Prelude.{◌≡◌, ◌≢◌, ◌⊎◌, ◌↔◌, ℕ, ◌+◌, ◌-◌, ◌<◌, List, Option, Contains, map, slice_index}
use Rattle.ir_model.specs.Topology.{Topology, node_count, IsTopology}
use Rattle.ir_model.specs.Numbering.{neighbors_of, IsDepthFirst}
use Rattle.ir_model.specs.Interval.{InInterval}
use Rattle.ir_model.specs.Subtree.{IsSubtree}
use Rattle.ir_model.specs.Plan.{AreLabels}
use Rattle.ir_model.specs.Row.{Start, labels}
use Rattle.ir_model.specs.Compiled.{label_after, IsCanonical}
use Rattle.ir_model.specs.Tree.{IsParent, IsTreeTable}

-- the node v is in the subtree of the node u: its chain of parents meets u
pub data IsBelow (order parents : List ℕ) (u : ℕ) : ℕ → Type 0 where
  at : IsBelow order parents u u
  from_parent : (v w : ℕ) → IsParent order parents v w → IsBelow order parents u w → IsBelow order parents u v

-- where the labels of the subtree of so many nodes end, whose first label is a
abbrev pub end_label : ℕ → ℕ → ℕ → ℕ
end_label n a size = label_after n (a + size - 1)

-- The subtree of a node u with so many nodes has the labels of the cyclic interval that begins at the label of u and ends
-- so many labels later.
abbrev pub SubtreesAreIntervals : Type 0
SubtreesAreIntervals = (adjacent : ℕ → List ℕ) (n root u v size : ℕ) (order parents numbers : List ℕ)
    → IsDepthFirst adjacent n root order parents → AreLabels n order numbers → u < n → v < n → IsSubtree n parents (slice_index numbers u) size
    → IsBelow order parents u v ↔ InInterval n (slice_index numbers u) (end_label n (slice_index numbers u) size) (slice_index numbers v)

-- What is not in the subtree of a node but the root has the labels of the interval from that end to the node's label.
abbrev pub OthersAreAnInterval : Type 0
OthersAreAnInterval = (adjacent : ℕ → List ℕ) (n root u v size : ℕ) (order parents numbers : List ℕ)
    → IsDepthFirst adjacent n root order parents → AreLabels n order numbers → u < n → v < n → u ≢ root → IsSubtree n parents (slice_index numbers u) size
    → (IsBelow order parents u v → ⊥) ↔ InInterval n (end_label n (slice_index numbers u) size) (slice_index numbers u) (slice_index numbers v)

-- The canonical row of a node u for a tree table has a start at the label of each son, and, but at the root, one where
-- the labels of the subtree of u end. It has no other start.
abbrev pub TreeRowsStartAtSons : Type 0
TreeRowsStartAtSons = (net : Topology) (root u size : ℕ) (order parents numbers : List ℕ) (table : ℕ → ℕ → Option ℕ) (row : List Start)
    → IsTopology net → IsDepthFirst (neighbors_of net) (node_count net) root order parents → AreLabels (node_count net) order numbers
    → IsTreeTable net order parents table → u < node_count net → IsSubtree (node_count net) parents (slice_index numbers u) size
    → IsCanonical (node_count net) (slice_index numbers u) (map (table u) order) row
    → (d : ℕ) → Contains (labels row) d ↔ (((v : ℕ) × IsParent order parents v u × (d ≡ slice_index numbers v)) ⊎ ((u ≢ root) × (d ≡ end_label (node_count net) (slice_index numbers u) size)))
