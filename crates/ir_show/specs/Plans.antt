-- The plans of a kind by their numbers, and which labels need no plan.
use Rattle.std.specs.Prelude.{◌≡◌, ℕ, ◌<◌, List}
use Rattle.ir_model.specs.declared.Kind.{Kind}
use Rattle.ir_model.specs.Topology.{Topology, node_count}
use Rattle.ir_model.specs.Plan.{Plan, AreLabels, IsPlan}
use Rattle.ir_numbering.specs.Numbering.{Numbering}
use Rattle.ir_plan.specs.declared.tour.LabelOrder.TheVariants.{DepthFirst, Tour}
use Rattle.ir_plan.specs.Building.{Labelling, FromRoot, ByList}
use Rattle.ir_plan.specs.Starts.{IsOfShortestWays, IsDepthFirstOrder}

-- no tour is sought for so many nodes: they are labelled depth first, by a list, or are more than 4,096
abbrev pub NeedsNoTour : ℕ → Labelling → Type 0
NeedsNoTour nodes (FromRoot DepthFirst root) = Unit {0}
NeedsNoTour nodes (FromRoot Tour root) = 4096 < nodes
NeedsNoTour nodes (ByList list) = Unit {0}

-- the nodes in the order of these labels: depth first from the root, or as they are listed
abbrev pub IsOrderBy : Topology → Labelling → List ℕ → Type 0
IsOrderBy topology (FromRoot labels root) order = IsDepthFirstOrder topology root order
IsOrderBy topology (ByList list) order = order ≡ list

-- a plan of a kind over the network, with these numbers
pub record IsPlanOver (topology : Topology) (kind : Kind) (numbers : Numbering) (plan : Plan) : Type 0 where
  pub valid : IsPlan plan
  pub over : plan.topology ≡ topology
  pub of_kind : plan.kind ≡ kind
  pub order : plan.order ≡ numbers.order
  pub labels : plan.labels ≡ numbers.labels

-- the network has a plan of each kind of shortest ways for each numbering of its nodes
abbrev pub HasPlans : Topology → Type 0
HasPlans topology =
    (kind : Kind) → IsOfShortestWays kind → (numbers : Numbering) → AreLabels (node_count topology) numbers.order numbers.labels → (plan : Plan) × IsPlanOver topology kind numbers plan
