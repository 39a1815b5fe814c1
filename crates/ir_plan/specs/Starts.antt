-- How many starts a plan has, and in which order it is labelled.
use Rattle.std.specs.Prelude.{◌≡◌, ℕ, ◌<◌, ◌≤◌, List, length, sum_by}
use Rattle.ir_model.specs.declared.Kind.{Kind}
use Rattle.ir_model.specs.declared.Kind.TheVariants.{Tree, Shortest, Compact, Landmark}
use Rattle.ir_model.specs.Topology.{Topology, node_count}
use Rattle.ir_model.specs.Numbering.{IsDepthFirst, neighbors_of}
use Rattle.ir_model.specs.Plan.{Plan, IsPlan, table_port}
use Rattle.ir_bounds.specs.Plans.{AreBlockLabels}
use Rattle.ir_plan.specs.Tour.{IsTour}
use Rattle.ir_plan.specs.declared.tour.LabelOrder.{LabelOrder}
use Rattle.ir_plan.specs.declared.tour.LabelOrder.TheVariants.{DepthFirst, Tour}

-- how many starts all rows have
abbrev pub start_count : Plan → ℕ
start_count plan = sum_by length plan.rows

-- q is a plan of the kind, root and network of p
pub record IsPlanAs (p q : Plan) : Type 0 where
  pub plan : IsPlan q
  pub kind : q.kind ≡ p.kind
  pub root : q.root ≡ p.root
  pub topology : q.topology ≡ p.topology

-- the nodes in the order of depth-first numbers from the root
abbrev pub IsDepthFirstOrder : Topology → ℕ → List ℕ → Type 0
IsDepthFirstOrder net root order = (parents : List ℕ) × IsDepthFirst (neighbors_of net) (node_count net) root order parents

-- the nodes by label in the first plan of a kind: depth first, but for landmark plans, whose labels are blocks
abbrev pub IsFirstOrder : Kind → Topology → ℕ → List ℕ → Type 0
IsFirstOrder Tree net root order = IsDepthFirstOrder net root order
IsFirstOrder Shortest net root order = IsDepthFirstOrder net root order
IsFirstOrder Compact net root order = IsDepthFirstOrder net root order
IsFirstOrder (Landmark t) net root order = AreBlockLabels net root t.landmarks order

-- the plan is the first of its kind, root and network
abbrev pub IsFirstPlan : Plan → Type 0
IsFirstPlan plan = IsFirstOrder plan.kind plan.topology plan.root plan.order

-- p is labelled by the tour of its network from its root where the plan over that has fewer starts than the first plan,
-- else as that
pub record HasFewerOfTwo (plan : Plan) : Type 0 where
  pub first : Plan
  pub first_is : IsPlanAs plan first
  pub numbers : IsFirstPlan first
  pub over : Plan
  pub over_is : IsPlanAs plan over
  pub tour : IsTour plan.topology plan.root over.order
  pub fewer : start_count over < start_count first → plan.order ≡ over.order
  pub others : start_count first ≤ start_count over → plan.order ≡ first.order

-- a kind of shortest ways: its labels may be a tour's, where those of trees are depth first and of landmark plans blocks
abbrev pub IsOfShortestWays : Kind → Type 0
IsOfShortestWays Tree = ⊥
IsOfShortestWays Shortest = Unit {0}
IsOfShortestWays Compact = Unit {0}
IsOfShortestWays (Landmark t) = ⊥

-- a tour is sought: for kinds of shortest ways, and up to 4,096 nodes
abbrev pub IsToured : Plan → Type 0
IsToured plan = IsOfShortestWays plan.kind × (node_count plan.topology ≤ 4096)

-- A plan is labelled in this order: as the first plan of its kind, which is depth first but for landmark plans. Or by a
-- tour where one is sought, else as the first plan too.
abbrev pub IsLabelledBy : LabelOrder → Plan → Type 0
IsLabelledBy DepthFirst plan = IsFirstPlan plan
IsLabelledBy Tour plan = (IsToured plan → HasFewerOfTwo plan) × ((IsToured plan → ⊥) → IsFirstPlan plan)

-- two plans over n nodes have the same table
abbrev pub HaveSameTable : ℕ → Plan → Plan → Type 0
HaveSameTable n p q = (u d : ℕ) → u < n → d < n → table_port p u d ≡ table_port q u d
