-- The most intervals at one port, as k of k-interval routing (van Leeuwen and Tan 1987).
use Rattle.std.specs.Prelude.{◌≡◌, ℕ, ◌<◌, ◌≤◌, ◌==◌, List, length, Option, None, Some, count_by}
use Rattle.ir_model.specs.Topology.{node_count, ports_of}
use Rattle.ir_model.specs.Row.{Start, start_ports}
use Rattle.ir_model.specs.Plan.{Plan, row_in}
use Rattle.ir_show.specs.StatsText.{IsEarlier}
use Rattle.ir_figures.specs.declared.most.Most.{Most}

-- how many intervals of a row go by port p
abbrev pub intervals_at : List Start → ℕ → ℕ
intervals_at row p = count_by (λ q. q == p) (start_ports row)

-- u has a port p
abbrev pub HasPortNumber : Plan → ℕ → ℕ → Type 0
HasPortNumber plan u p = (u < node_count plan.topology) × (p < length (ports_of plan.topology u))

-- Of the ports before port p of u, by node and then by number, that of `most` has the most intervals, and is the first
-- that has as many.
pub record IsMostBefore (plan : Plan) (u p : ℕ) (most : Most) : Type 0 where
  pub node : most.node < node_count plan.topology
  pub port : most.port < length (ports_of plan.topology most.node)
  pub count : most.count ≡ intervals_at (row_in plan most.node) most.port
  pub greatest : (v q : ℕ) → HasPortNumber plan v q → IsEarlier v q u p → intervals_at (row_in plan v) q ≤ most.count
  pub first : (v q : ℕ) → HasPortNumber plan v q → IsEarlier v q most.node most.port → intervals_at (row_in plan v) q < most.count

-- the same, where there is such a port
abbrev pub AreMostBefore : Plan → ℕ → ℕ → Option Most → Type 0
AreMostBefore plan u p None = (v q : ℕ) → HasPortNumber plan v q → IsEarlier v q u p → ⊥
AreMostBefore plan u p (Some most) = IsMostBefore plan u p most

-- of all ports
abbrev pub AreMost : Plan → Option Most → Type 0
AreMost plan most = AreMostBefore plan (node_count plan.topology) 0 most
