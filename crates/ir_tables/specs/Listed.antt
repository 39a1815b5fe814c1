-- Tables given as a list of ports.
use Rattle.std.specs.Prelude.{◌≡◌, ℕ, ◌+◌, ◌*◌, ◌<◌, Option, Some, None, List, length, slice_index_or, option_and_then}
use Rattle.ir_model.specs.declared.Hop.{Hop}
use Rattle.ir_model.specs.Topology.{Topology, node_count, port_at}
use Rattle.ir_model.specs.Walk.{weight_from}
use Rattle.ir_model.specs.Table.{Table, table_size, port_in, Continues, IsPrescribedWalk}
use Rattle.ir_tables.specs.Relaxation.{at, unreached}

-- the port at (u, d) in a list of the ports of n nodes, each node's in order of the destinations
abbrev pub listed_port : ℕ → List (Option ℕ) → ℕ → ℕ → Option ℕ
listed_port n ports u d = slice_index_or ports (u * n + d) None

-- the table prescribes a walk from u to d
abbrev pub HasWalk : Topology → (ℕ → ℕ → Option ℕ) → ℕ → ℕ → Type 0
HasWalk net table u d = (walk : List ℕ) × IsPrescribedWalk net table u d walk

-- The list has an entry for each node and destination, none where they are one node, and prescribes a walk for each two
-- nodes. So each other entry is a port.
pub record IsPortList (net : Topology) (ports : List (Option ℕ)) : Type 0 where
  pub len : length ports ≡ node_count net * node_count net
  pub own : (d : ℕ) → d < node_count net → listed_port (node_count net) ports d d ≡ None
  pub walks : (u d : ℕ) → u < node_count net → d < node_count net → HasWalk net (listed_port (node_count net) ports) u d

-- A table of that many nodes with the ports of the list.
pub record IsListed (net : Topology) (ports : List (Option ℕ)) (table : Table) : Type 0 where
  pub size : table_size table ≡ node_count net
  pub held : (u d : ℕ) → u < node_count net → d < node_count net → port_in table u d ≡ listed_port (node_count net) ports u d

-- ---- ways to a destination

-- where the port that the table holds at (x, d) leads
abbrev pub hop_in : Topology → (ℕ → ℕ → Option ℕ) → ℕ → ℕ → Option Hop
hop_in net table x d = option_and_then (λ p. port_at net x p) (table x d)

-- the port that the table holds at (x, d)
pub record IsTableHop (net : Topology) (table : ℕ → ℕ → Option ℕ) (x d : ℕ) (hop : Hop) : Type 0 where
  pub port : ℕ
  pub held : table x d ≡ Some port
  pub there : port_at net x port ≡ Some hop

-- the table goes on from x to d by a way of this weight
pub record IsWay (net : Topology) (table : ℕ → ℕ → Option ℕ) (d x weight : ℕ) : Type 0 where
  pub rest : List ℕ
  pub continues : Continues net table d x rest
  pub weighs : weight_from net x rest ≡ weight

-- weights by node, where each one that is found is that of a way to d
pub record IsFilled (net : Topology) (table : ℕ → ℕ → Option ℕ) (d : ℕ) (weights : List ℕ) : Type 0 where
  pub len : length weights ≡ node_count net
  pub end : at weights d ≡ 0
  pub ways : (x : ℕ) → x < node_count net → at weights x < unreached → IsWay net table d x (at weights x)

-- weights by node, each that of a way to d
pub record AreWays (net : Topology) (table : ℕ → ℕ → Option ℕ) (d : ℕ) (weights : List ℕ) : Type 0 where
  pub len : length weights ≡ node_count net
  pub ways : (x : ℕ) → x < node_count net → IsWay net table d x (at weights x)

-- the column for the destination d
pub record IsListedColumn (net : Topology) (list : List (Option ℕ)) (d : ℕ) (ports : List (Option ℕ)) (weights : List ℕ) : Type 0 where
  pub ports_len : length ports ≡ node_count net
  pub held : (u : ℕ) → u < node_count net → slice_index_or ports u None ≡ listed_port (node_count net) list u d
  pub weights_are : AreWays net (listed_port (node_count net) list) d weights
