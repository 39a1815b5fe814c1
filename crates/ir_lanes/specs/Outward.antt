-- The shortest ways from sixteen nodes, as keys in lanes: a weight, and after it a port.
use Rattle.std.specs.Prelude.{◌≡◌, ◌≢◌, ℕ, ◌*◌, ◌/◌, ◌%◌, ◌^◌, ◌<◌, ◌≤◌, ◌==◌, if◌then◌else◌, List, length, slice_index}
use Rattle.ir_model.specs.Topology.{Topology, node_count}
use Rattle.ir_model.specs.Walk.{IsDistance}
use Rattle.ir_model.specs.Table.{IsShortestPort}
use Rattle.ir_lanes.specs.Lanes.{in_lane}

-- sixteen nodes, and for each node the keys from them, in its lanes; the port has this many bits of a key
pub record OutwardLanes : Type 0 where
  pub sources : List ℕ
  pub bits : ℕ
  pub keys : List ℕ

-- the node of lane k
abbrev pub source_at : OutwardLanes → ℕ → ℕ
source_at ways k = slice_index ways.sources k

-- the weight of the way from the node of lane k to v
abbrev pub lane_weight : OutwardLanes → ℕ → ℕ → ℕ
lane_weight ways k v = if v == source_at ways k then 0 else in_lane ways.keys k v / 2 ^ ways.bits

-- the port that the way from the node of lane k to v begins with
abbrev pub lane_port : OutwardLanes → ℕ → ℕ → ℕ
lane_port ways k v = in_lane ways.keys k v % 2 ^ ways.bits

-- the weights are the distances from the sixteen nodes, and the ports the least ones that lead nearer
pub record AreOutwardLanes (net : Topology) (ways : OutwardLanes) : Type 0 where
  pub sixteen : length ways.sources ≡ 16
  pub few_bits : ways.bits ≤ 15
  pub every : length ways.keys ≡ node_count net * 16
  pub node : (k : ℕ) → k < 16 → source_at ways k < node_count net
  pub weight : (k v : ℕ) → k < 16 → v < node_count net → IsDistance net (source_at ways k) v (lane_weight ways k v)
  pub port : (k v : ℕ) → k < 16 → v < node_count net → source_at ways k ≢ v → IsShortestPort net (source_at ways k) v (lane_port ways k v)
