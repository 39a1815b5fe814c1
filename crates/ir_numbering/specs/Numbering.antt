-- What contracts see of a numbering.
use Rattle.std.specs.Prelude.{◌≡◌, ◌≢◌, ℕ, ◌<◌, Option, Some, None, List, length, All, AllPairs, slice_index, slice_index_or}
use Rattle.ir_model.specs.declared.Hop.{Hop}
use Rattle.ir_model.specs.Topology.{Topology, node_count, port_at}
use Rattle.ir_model.specs.Numbering.{neighbors_of, IsDepthFirst}
use Rattle.ir_model.specs.Subtree.{IsNested}
use Rattle.ir_model.specs.Tree.{IsParent}
use Rattle.ir_model.specs.Plan.{AreLabels}

-- The nodes by label, the place of each one's parent, the label of each node, and its port to its parent.
pub record Numbering : Type 0 where
  pub order : List ℕ
  pub parents : List ℕ
  pub labels : List ℕ
  pub ports : List (Option ℕ)

-- all numbers below n, each once
pub record IsListing (n : ℕ) (order : List ℕ) : Type 0 where
  pub every : length order ≡ n
  pub nodes : All (λ v. v < n) order
  pub once : AllPairs (λ u v. u ≢ v) order

-- port p of u leads to v
abbrev pub IsPortTo : Topology → ℕ → ℕ → ℕ → Type 0
IsPortTo net u p v = (hop : Hop) × (port_at net u p ≡ Some hop) × (hop.node ≡ v)

-- what the node u holds for its parent: the port to it, and none at the first node
pub record IsParentPort (net : Topology) (order parents : List ℕ) (u : ℕ) (port : Option ℕ) : Type 0 where
  pub first : u ≡ slice_index order 0 → port ≡ None
  pub others : u ≢ slice_index order 0 → (p : ℕ) × (v : ℕ) × (port ≡ Some p) × IsPortTo net u p v × IsParent order parents u v

pub record AreParentPorts (net : Topology) (order parents : List ℕ) (ports : List (Option ℕ)) : Type 0 where
  pub every_node : length ports ≡ node_count net
  pub each : (u : ℕ) → u < node_count net → IsParentPort net order parents u (slice_index_or ports u None)

-- The numbers are those of a depth-first numbering of the network, from the first node of their order.
pub record IsNumberingOf (net : Topology) (numbers : Numbering) : Type 0 where
  pub order : IsDepthFirst (neighbors_of net) (node_count net) (slice_index numbers.order 0) numbers.order numbers.parents
  pub labels : AreLabels (node_count net) numbers.order numbers.labels
  pub ports : AreParentPorts net numbers.order numbers.parents numbers.ports

-- what is true of all numbers of a numbering
pub record AreSoundNumbers (numbers : Numbering) : Type 0 where
  pub labels : AreLabels (length numbers.order) numbers.order numbers.labels
  pub parented : length numbers.parents ≡ length numbers.order
  pub ported : length numbers.ports ≡ length numbers.order
  pub nested : IsNested (length numbers.order) numbers.parents
