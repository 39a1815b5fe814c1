-- Weights found by relaxation: what holds of them on the way, and at the end.
use Rattle.std.specs.Prelude.{◌≡◌, ◌≢◌, ℕ, ◌+◌, ◌-◌, ◌^◌, ◌<◌, ◌≤◌, Option, Some, None, List, length, slice_get, slice_index, slice_index_or}
use Rattle.ir_model.specs.declared.Hop.{Hop}
use Rattle.ir_model.specs.Topology.{Topology, node_count, port_at}
use Rattle.ir_model.specs.Walk.{LeadsTo, IsWalk, weight_from, IsDistance}
use Rattle.ir_model.specs.Table.{IsShortestPort}

-- no port of any node offers less than f has there
abbrev pub IsTight : Topology → (ℕ → ℕ) → Type 0
IsTight net f = (u p : ℕ) (hop : Hop) → port_at net u p ≡ Some hop → f u ≤ hop.weight + f hop.node

-- f is 0 at d, and no port of any node offers less than f has there
pub record IsSettled (net : Topology) (d : ℕ) (f : ℕ → ℕ) : Type 0 where
  pub end : f d ≡ 0
  pub tight : IsTight net f

-- f gives at u the weight of a way
abbrev pub IsReached : Topology → ℕ → (ℕ → ℕ) → ℕ → Type 0
IsReached net d f u = (rest : List ℕ) × LeadsTo net u d rest × (weight_from net u rest ≡ f u)

-- the weight that stands for no way found yet
abbrev pub unreached : ℕ
unreached = 2 ^ 32 - 1

-- a list as a function of the node
abbrev pub at : List ℕ → ℕ → ℕ
at weights u = slice_index weights u

-- each weight below `unreached` is that of a way to d
abbrev pub AllReached : Topology → ℕ → List ℕ → Type 0
AllReached net d weights = (u : ℕ) → u < node_count net → at weights u < unreached → IsReached net d (at weights) u

-- port p offers this weight
abbrev pub Offers : List Hop → List ℕ → ℕ → ℕ → Type 0
Offers ports weights p weight = (hop : Hop) × (slice_get ports p ≡ Some hop) × (weight ≡ hop.weight + at weights hop.node)

-- the ports lead to nodes that have a weight
abbrev pub AllInRange : List Hop → List ℕ → Type 0
AllInRange ports weights = (p : ℕ) (hop : Hop) → slice_get ports p ≡ Some hop → hop.node < length weights

-- weights to d, by node, that relaxation has settled
pub record IsRelaxed (net : Topology) (d : ℕ) (weights : List ℕ) : Type 0 where
  pub len : length weights ≡ node_count net
  pub settled : IsSettled net d (at weights)
  pub reached : AllReached net d weights

-- the column of a shortest table for the destination d
pub record IsColumn (net : Topology) (d : ℕ) (ports : List (Option ℕ)) (weights : List ℕ) : Type 0 where
  pub ports_len : length ports ≡ node_count net
  pub weights_len : length weights ≡ node_count net
  pub weight : (u : ℕ) → u < node_count net → IsDistance net u d (slice_index weights u)
  pub own : slice_index_or ports d None ≡ None
  pub port : (u : ℕ) → u < node_count net → u ≢ d → (p : ℕ) × (slice_index_or ports u None ≡ Some p) × IsShortestPort net u d p

-- some node has no walk to d
abbrev pub HasNoWalk : Topology → ℕ → Type 0
HasNoWalk net d = (u : ℕ) × (u < node_count net) × ((walk : List ℕ) → IsWalk net u d walk → ⊥)
