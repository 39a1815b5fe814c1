-- The shortest ways from one node.
use Rattle.std.specs.Prelude.{◌≡◌, ◌≢◌, ◌↔◌, ◌⊎◌, ℕ, ◌+◌, ◌<◌, ◌≤◌, Bool, true, false, Option, Some, None, List, length, sum_by, Contains, slice_index_or}
use Rattle.ir_model.specs.declared.Hop.{Hop}
use Rattle.ir_model.specs.Topology.{Topology, node_count, ports_of, port_at}
use Rattle.ir_model.specs.Walk.{IsDistance}
use Rattle.ir_model.specs.Table.{LeadsNearer, IsShortestPort}
use Rattle.ir_tables.specs.Relaxation.{at}

-- a node, and a weight and a port for each node
pub record Outward : Type 0 where
  pub source : ℕ
  pub weights : List ℕ
  pub ports : List (Option ℕ)

-- the weights are the distances from u
pub record AreFrom (net : Topology) (u : ℕ) (weights : List ℕ) : Type 0 where
  pub node : u < node_count net
  pub every : length weights ≡ node_count net
  pub each : (d : ℕ) → d < node_count net → IsDistance net u d (at weights d)

-- the port that a list holds for a node
abbrev pub held_at : List (Option ℕ) → ℕ → Option ℕ
held_at held d = slice_index_or held d None

-- the least ports of u that lead nearer, by node, and none for itself
pub record AreLeastPorts (net : Topology) (u : ℕ) (held : List (Option ℕ)) : Type 0 where
  pub every : length held ≡ node_count net
  pub own : held_at held u ≡ None
  pub port : (d : ℕ) → d < node_count net → u ≢ d → (p : ℕ) × (held_at held d ≡ Some p) × IsShortestPort net u d p

-- the list has the nodes to which the port p of u leads nearer, and no others
pub record AreLedBy (net : Topology) (u p : ℕ) (nodes : List ℕ) : Type 0 where
  pub node : (d : ℕ) → Contains nodes d → d < node_count net
  pub each : (d : ℕ) → Contains nodes d ↔ LeadsNearer net u d p

-- the step from x by a hop goes as far as the weights do
abbrev pub IsTightStep : List ℕ → ℕ → Hop → Type 0
IsTightStep weights x hop = at weights hop.node ≡ at weights x + hop.weight

-- the node has a mark
abbrev pub IsMarked : List Bool → ℕ → Type 0
IsMarked marks y = slice_index_or marks y false ≡ true

-- how many nodes have no mark
abbrev pub one_if_unmarked : Bool → ℕ
one_if_unmarked true = 0
one_if_unmarked false = 1

abbrev pub unmarked : List Bool → ℕ
unmarked marks = sum_by one_if_unmarked marks

-- the nodes with marks are in the list
abbrev pub AreListed : List Bool → List ℕ → Type 0
AreListed marks led = (y : ℕ) → IsMarked marks y → Contains led y

-- each node that a tight step from x leads to is in the list
abbrev pub HasPassed : Topology → List ℕ → List ℕ → ℕ → Type 0
HasPassed net weights led x = (q : ℕ) (hop : Hop) → port_at net x q ≡ Some hop → IsTightStep weights x hop → Contains led hop.node

-- a tight step from x leads to y
pub record IsGot (net : Topology) (weights : List ℕ) (x y : ℕ) : Type 0 where
  pub q : ℕ
  pub hop : Hop
  pub port_is : port_at net x q ≡ Some hop
  pub node_is : hop.node ≡ y
  pub tight : IsTightStep weights x hop

-- x has passed a port on, along its first i ports: the list has grown by nodes that these lead to
pub record IsPassing (net : Topology) (weights : List ℕ) (x i : ℕ) (old : List Bool) (before : List ℕ) (marks : List Bool) (led : List ℕ) : Type 0 where
  pub every : length marks ≡ length old
  pub listed : AreListed marks led
  pub longer : length before ≤ length led
  pub kept : (k : ℕ) → k < length before → slice_index_or led k 0 ≡ slice_index_or before k 0
  pub new : (y : ℕ) → Contains led y → Contains before y ⊎ IsGot net weights x y
  pub room : length led + unmarked marks ≤ length before + unmarked old
  pub passed : (q : ℕ) (hop : Hop) → q < i → port_at net x q ≡ Some hop → IsTightStep weights x hop → Contains led hop.node

-- x has passed the port on
abbrev pub IsPassedOn : Topology → List ℕ → ℕ → List Bool → List ℕ → List Bool → List ℕ → Type 0
IsPassedOn net weights x old before marks led = IsPassing net weights x (length (ports_of net x)) old before marks led
