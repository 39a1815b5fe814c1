-- The places of all ports of a network in one row: the ports of node 0 in order, then those of node 1, and so on.
use Rattle.std.specs.Prelude.{◌≡◌, ℕ, ◌+◌, ◌<◌, Some, List, length, slice_get, sum_by, take}
use Rattle.ir_model.specs.declared.Hop.{Hop}
use Rattle.ir_model.specs.Topology.{Topology, port_at, port_back}

-- how many ports the nodes before u have
unfoldable pub offset : Topology → ℕ → ℕ
offset net u = sum_by length (take u net.ports)

-- how many ports there are
unfoldable pub way_count : Topology → ℕ
way_count net = sum_by length net.ports

module _ {X : Type 0} where
  -- a row that has what it must up to port p of u
  pub record IsFilledTo (net : Topology) (Q : ℕ → Hop → X → Type 0) (u p : ℕ) (xs : List X) : Type 0 where
    pub len : length xs ≡ offset net u + p
    pub before : (v j : ℕ) (hop : Hop) (x : X) → v < u → port_at net v j ≡ Some hop → slice_get xs (offset net v + j) ≡ Some x → Q v hop x
    pub here : (j : ℕ) (hop : Hop) (x : X) → j < p → port_at net u j ≡ Some hop → slice_get xs (offset net u + j) ≡ Some x → Q u hop x

  -- a row that has what it must at each port
  pub record IsFilled (net : Topology) (Q : ℕ → Hop → X → Type 0) (xs : List X) : Type 0 where
    pub len : length xs ≡ way_count net
    pub each : (v j : ℕ) (hop : Hop) (x : X) → port_at net v j ≡ Some hop → slice_get xs (offset net v + j) ≡ Some x → Q v hop x

-- the place of the same link's port at its other end
abbrev pub IsPeer : Topology → ℕ → Hop → ℕ → Type 0
IsPeer net u hop k = (q : ℕ) × (port_at net hop.node q ≡ Some (port_back u hop)) × (k ≡ offset net hop.node + q)
