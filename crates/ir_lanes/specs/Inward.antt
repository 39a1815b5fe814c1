-- The marks of the ports that lead nearer to sixteen nodes, by the distances in lanes.
use Rattle.std.specs.Prelude.{◌≡◌, ◌≢◌, ◌↔◌, ℕ, ◌+◌, ◌/◌, ◌%◌, ◌^◌, ◌<◌, Some, List, length, sum_by, take, slice_index}
use Rattle.ir_model.specs.declared.Hop.{Hop}
use Rattle.ir_model.specs.Topology.{Topology, node_count, ports_of, port_at}
use Rattle.ir_model.specs.Table.{LeadsNearer}
use Rattle.ir_lanes.specs.Lanes.{in_lane}

-- how many ports the nodes before u have
abbrev pub ports_before : Topology → ℕ → ℕ
ports_before net u = sum_by length (take u net.ports)

-- the bit k of a word is set
abbrev pub IsSet : ℕ → ℕ → Type 0
IsSet word k = word / 2 ^ k % 2 ≡ 1

-- A word for each port of each node, in order: the bit k is set where the port leads nearer to the node k of sixteen. From
-- each other node some port does.
pub record ArePortWords (net : Topology) (ends words : List ℕ) : Type 0 where
  pub every : length words ≡ ports_before net (node_count net)
  pub bit : (u p k : ℕ) → u < node_count net → p < length (ports_of net u) → k < 16 → IsSet (slice_index words (ports_before net u + p)) k ↔ LeadsNearer net u (slice_index ends k) p
  pub nearer : (u k : ℕ) → u < node_count net → k < 16 → u ≢ slice_index ends k → (p : ℕ) × LeadsNearer net u (slice_index ends k) p

-- in lane k the weight at u is that of a step by the port and what is there
abbrev pub IsTightIn : List ℕ → ℕ → ℕ → Hop → Type 0
IsTightIn weights k u hop = in_lane weights k u ≡ hop.weight + in_lane weights k hop.node

-- words for the first i ports of u follow the old ones
pub record IsPushing (net : Topology) (weights : List ℕ) (u i : ℕ) (old words : List ℕ) : Type 0 where
  pub longer : length words ≡ length old + i
  pub kept : (j : ℕ) → j < length old → slice_index words j ≡ slice_index old j
  pub bit : (p k : ℕ) (hop : Hop) → p < i → k < 16 → port_at net u p ≡ Some hop → IsSet (slice_index words (length old + p)) k ↔ IsTightIn weights k u hop

-- words for all ports of u follow the old ones
abbrev pub IsPushed : Topology → List ℕ → ℕ → List ℕ → List ℕ → Type 0
IsPushed net weights u old words = IsPushing net weights u (length (ports_of net u)) old words

-- words for all ports of the first u nodes
pub record AreTightWords (net : Topology) (weights : List ℕ) (u : ℕ) (words : List ℕ) : Type 0 where
  pub every : length words ≡ ports_before net u
  pub bit : (v p k : ℕ) (hop : Hop) → v < u → k < 16 → port_at net v p ≡ Some hop → IsSet (slice_index words (ports_before net v + p)) k ↔ IsTightIn weights k v hop
