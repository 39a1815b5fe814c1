-- Sixteen lanes at each node: lane k of the node u is at the place u * 16 + k of a list.
use Rattle.std.specs.Prelude.{◌≡◌, ℕ, ◌+◌, ◌*◌, ◌<◌, ◌≤◌, Some, List, length, slice_get, slice_index}
use Rattle.ir_model.specs.declared.Hop.{Hop}
use Rattle.ir_model.specs.Topology.{Topology, node_count}

-- v has 16 lanes, and lane k holds f k
pub record HasLanes (v : List ℕ) (f : ℕ → ℕ) : Type 0 where
  pub long : length v ≡ 16
  pub each : (k : ℕ) → k < 16 → slice_index v k ≡ f k

-- the weight in lane k of a node
abbrev pub in_lane : List ℕ → ℕ → ℕ → ℕ
in_lane lanes k u = slice_index lanes (u * 16 + k)

-- the ports lead to nodes that have lanes
abbrev pub HaveLanes : List Hop → List ℕ → Type 0
HaveLanes ports lanes = (p : ℕ) (hop : Hop) → slice_get ports p ≡ Some hop → hop.node * 16 + 16 ≤ length lanes

-- what is farther than each weight that is looked for
abbrev pub far : ℕ
far = 2147483648

-- the most that a step adds
abbrev pub most_added : ℕ
most_added = 2147483647

-- each node has its lanes, and none holds more than `far`
pub record AreNear (net : Topology) (lanes : List ℕ) : Type 0 where
  pub every : length lanes ≡ node_count net * 16
  pub near : (i : ℕ) → slice_index lanes i ≤ far

-- in each lane no weight that one of the first i ports offers is less, and one offers it; a port's weight counts `unit` times
pub record AreLeastOffers (ports : List Hop) (unit i : ℕ) (lanes : List ℕ) (v : List ℕ) : Type 0 where
  pub long : length v ≡ 16
  pub below : (k p : ℕ) (hop : Hop) → k < 16 → p < i → slice_get ports p ≡ Some hop → slice_index v k ≤ hop.weight * unit + in_lane lanes k hop.node
  pub met : (k : ℕ) → k < 16 → slice_index v k < 4294967295
      → (p : ℕ) × (hop : Hop) × (slice_get ports p ≡ Some hop) × (slice_index v k ≡ hop.weight * unit + in_lane lanes k hop.node)
