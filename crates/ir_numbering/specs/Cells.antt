-- What a tree table holds at a place and a destination's place.
use Rattle.std.specs.Prelude.{◌≡◌, ℕ, ◌+◌, ◌*◌, ◌<◌, Option, Some, None, List, length, slice_index, slice_index_or}
use Rattle.ir_model.specs.Topology.{Topology, node_count}
use Rattle.ir_model.specs.Subtree.{IsUnder}
use Rattle.ir_numbering.specs.Numbering.{IsPortTo}

-- what the node at the place a holds for the place i: nothing for its own, the port to the son that i is under, else
-- the port to its parent
pub record IsTreeCell (net : Topology) (order parents : List ℕ) (a i : ℕ) (port : Option ℕ) : Type 0 where
  pub own : i ≡ a → port ≡ None
  pub son : (c : ℕ) → 0 < c → c < node_count net → slice_index parents c ≡ a → IsUnder parents c i
      → (p : ℕ) × (port ≡ Some p) × IsPortTo net (slice_index order a) p (slice_index order c)
  pub father : (IsUnder parents a i → ⊥) → (p : ℕ) × (port ≡ Some p) × IsPortTo net (slice_index order a) p (slice_index order (slice_index parents a))

-- the ports of the node at the place a, by place
pub record AreTreeCells (net : Topology) (order parents : List ℕ) (a count : ℕ) (ports : List (Option ℕ)) : Type 0 where
  pub every : length ports ≡ count
  pub each : (i : ℕ) → i < count → IsTreeCell net order parents a i (slice_index_or ports i None)

-- the ports of the first nodes to all nodes, row by row
pub record AreTreeRows (net : Topology) (order parents labels : List ℕ) (rows : ℕ) (ports : List (Option ℕ)) : Type 0 where
  pub every : length ports ≡ rows * node_count net
  pub each : (u d : ℕ) → u < rows → d < node_count net
      → IsTreeCell net order parents (slice_index labels u) (slice_index labels d) (slice_index_or ports (u * node_count net + d) None)
