-- Which directed links of plans wait for which (the channel dependency graph of Dally and Seitz 1987).
use Rattle.std.specs.Prelude.{◌≡◌, ◌≢◌, ◌⊎◌, ℕ, ◌+◌, ◌-◌, ◌<◌, Option, Some, None, nat_lt, if◌then◌else◌, List, length, slice_index}
use Rattle.ir_model.specs.declared.Hop.{Hop}
use Rattle.ir_model.specs.Topology.{Topology, node_count, port_at}
use Rattle.ir_model.specs.Plan.{Plan, table_port}

-- The directed link by port p of u waits for the one by port q of v: a prescribed walk takes one after the other.
pub record Waits (plan : Plan) (u p v q : ℕ) : Type 0 where
  pub goal : ℕ
  pub hop : Hop
  pub from : u < node_count plan.topology
  pub to : goal < node_count plan.topology
  pub leaves : table_port plan u goal ≡ Some p
  pub leads : port_at plan.topology u p ≡ Some hop
  pub there : hop.node ≡ v
  pub goes_on : table_port plan v goal ≡ Some q

-- it does so in one of two plans, as where packets of both are under way
abbrev pub WaitsInEither : Plan → Plan → ℕ → ℕ → ℕ → ℕ → Type 0
WaitsInEither plan other u p v q = Waits plan u p v q ⊎ Waits other u p v q

-- the number that a node of the network without the node k has in the whole network; without none it is the same one
abbrev pub whole_number : Option ℕ → ℕ → ℕ
whole_number None u = u
whole_number (Some k) u = if nat_lt u k then u else u + 1

-- The directed link by port p of u in the whole network is the one by port r of x in a part of it, whose nodes have these
-- numbers in the whole network: both lead from one node to one other.
pub record IsSameLink (whole : Topology) (number : ℕ → ℕ) (part : Topology) (u p x r : ℕ) : Type 0 where
  pub hop : Hop
  pub leads : port_at whole u p ≡ Some hop
  pub inner : Hop
  pub inner_leads : port_at part x r ≡ Some inner
  pub from : number x ≡ u
  pub to : number inner.node ≡ hop.node

-- The directed link by port p of u waits for the one by port q of v by a plan over a part of the network: there the same
-- links do so.
pub record WaitsInPart (whole : Topology) (number : ℕ → ℕ) (plan : Plan) (u p v q : ℕ) : Type 0 where
  pub x : ℕ
  pub r : ℕ
  pub y : ℕ
  pub s : ℕ
  pub wait : Waits plan x r y s
  pub first : IsSameLink whole number plan.topology u p x r
  pub next : IsSameLink whole number plan.topology v q y s

-- It does so by a plan over the whole network or by one over a part, as where packets of both are under way.
abbrev pub WaitsBeside : Plan → (ℕ → ℕ) → Plan → ℕ → ℕ → ℕ → ℕ → Type 0
WaitsBeside plan number other u p v q = Waits plan u p v q ⊎ WaitsInPart plan.topology number other u p v q

-- by which directed links wait for which
module _ (waits : ℕ → ℕ → ℕ → ℕ → Type 0) where
  -- the links can be numbered such that each waits for greater ones alone
  abbrev pub IsWithoutRing : Type 0
  IsWithoutRing = (number : ℕ → ℕ → ℕ) × ((u p v q : ℕ) → waits u p v q → number u p < number v q)

  -- links, each by a node and a port, none twice, of which each waits for the next one, and the last for the first
  pub record IsWaitingRing (nodes ports : List ℕ) : Type 0 where
    pub some : 0 < length nodes
    pub every : length ports ≡ length nodes
    pub once : (i j : ℕ) → i < j → j < length nodes → slice_index nodes i ≡ slice_index nodes j → slice_index ports i ≢ slice_index ports j
    pub next : (i : ℕ) → i + 1 < length nodes → waits (slice_index nodes i) (slice_index ports i) (slice_index nodes (i + 1)) (slice_index ports (i + 1))
    pub closed : waits (slice_index nodes (length nodes - 1)) (slice_index ports (length nodes - 1)) (slice_index nodes 0) (slice_index ports 0)
