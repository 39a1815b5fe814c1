-- The directed links of a network in a row: those that leave a node by port, after those of the nodes before it.
use Rattle.std.specs.Prelude.{◌≡◌, ℕ, ◌+◌, ◌<◌, ◌≤◌, ◌⊎◌, Bool, true, Option, Some, List, [], ◌++◌, replicate, length, take, sum_by, slice_index, slice_index_or, None, false}
use Rattle.ir_model.specs.declared.Hop.{Hop}
use Rattle.ir_model.specs.Topology.{Topology, node_count, ports_of, port_at}
use Rattle.ir_model.specs.Row.{labels, IsPlaceOf}
use Rattle.ir_model.specs.Plan.{Plan, table_port, node_in, label_in, row_in}
use Rattle.ir_figures.specs.Waits.{Waits}

-- how many links leave the nodes before u
abbrev pub exits_before : Topology → ℕ → ℕ
exits_before topology u = sum_by length (take u topology.ports)

-- where the links of each of the first so many nodes begin, and the node that each of these links leaves
pub record AreExits (topology : Topology) (count : ℕ) (first nodes : List ℕ) : Type 0 where
  pub every : length first ≡ count
  pub starts : (u : ℕ) → u < count → slice_index first u ≡ exits_before topology u
  pub all : length nodes ≡ exits_before topology count
  pub node : (c : ℕ) → c < length nodes → slice_index nodes c < count
  pub after : (c : ℕ) → c < length nodes → exits_before topology (slice_index nodes c) ≤ c
  pub below : (c : ℕ) → c < length nodes → c < exits_before topology (slice_index nodes c + 1)

-- of each node the place in its row of the interval that has the label a
pub record ArePlacesAt (plan : Plan) (a : ℕ) (places : List ℕ) : Type 0 where
  pub every : length places ≡ node_count plan.topology
  pub within : (u : ℕ) → u < node_count plan.topology → slice_index places u ≤ length (row_in plan u)
  pub each : (u : ℕ) → u < node_count plan.topology → 1 < node_count plan.topology → IsPlaceOf (labels (row_in plan u)) a (slice_index places u)

-- the ports of all nodes to the label a
pub record ArePortsTo (plan : Plan) (a : ℕ) (ports : List (Option ℕ)) : Type 0 where
  pub every : length ports ≡ node_count plan.topology
  pub each : (u : ℕ) → u < node_count plan.topology → slice_index_or ports u None ≡ table_port plan u (node_in plan a)

-- A link waits for another one on a walk to a label before a, or, where the link leaves one of the first k nodes, to a.
pub record WaitsSoFar (plan : Plan) (a k : ℕ) (u p v q : ℕ) : Type 0 where
  pub wait : Waits plan u p v q
  pub so_far : (label_in plan wait.goal < a) ⊎ ((label_in plan wait.goal ≡ a) × (u < k))

-- by which links wait for which
module _ (topology : Topology) (waits : ℕ → ℕ → ℕ → ℕ → Type 0) where
  -- a mark for each port of v: where the link by port p of u waits for the one by that port
  pub record AreAwaited (u p v : ℕ) (marks : List Bool) : Type 0 where
    pub every : length marks ≡ length (ports_of topology v)
    pub marked : (q : ℕ) → waits u p v q → slice_index_or marks q false ≡ true
    pub only : (q : ℕ) → slice_index_or marks q false ≡ true → waits u p v q

  -- the place c of blocks and marks is that of the link by port p of u
  pub record IsExitAt (blocks : List ℕ) (marks : List (List Bool)) (u p c : ℕ) : Type 0 where
    pub hop : Hop
    pub leads : port_at topology u p ≡ Some hop
    pub block : slice_index blocks c ≡ exits_before topology hop.node
    pub onward : AreAwaited u p hop.node (slice_index_or marks c [])

  -- the blocks and the marks of the first so many links
  pub record AreLinks (blocks : List ℕ) (marks : List (List Bool)) (count : ℕ) : Type 0 where
    pub every_block : length blocks ≡ count
    pub every_row : length marks ≡ count
    pub each : (v r : ℕ) → v < node_count topology → r < length (ports_of topology v) → exits_before topology v + r < count
        → IsExitAt blocks marks v r (exits_before topology v + r)

-- the node u follows the others, so many times
abbrev pub AreNextExits : List ℕ → ℕ → ℕ → List ℕ → Type 0
AreNextExits old u count new = new ≡ old ++ replicate count u

-- the nodes that links of these numbers leave
pub record AreLeftBy (nodes ring named : List ℕ) : Type 0 where
  pub every : length named ≡ length ring
  pub each : (i : ℕ) → i < length ring → slice_index named i ≡ slice_index nodes (slice_index ring i)
