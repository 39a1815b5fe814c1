-- Which plans are built, by what they are labelled, and why there is none.
use Rattle.std.specs.Prelude.{◌≡◌, ◌≢◌, ℕ, ◌<◌, ◌≤◌, List}
use Rattle.ir_model.specs.declared.Kind.{Kind}
use Rattle.ir_model.specs.declared.Kind.TheVariants.{Tree}
use Rattle.ir_model.specs.Topology.{Topology, node_count}
use Rattle.ir_model.specs.Walk.{IsDisconnected}
use Rattle.ir_model.specs.Plan.{Plan, IsPlan}
use Rattle.ir_numbering.specs.Numbering.{IsListing}
use Rattle.ir_plan.specs.declared.error.PlanError.{PlanError}
use Rattle.ir_plan.specs.declared.error.PlanError.TheVariants.{NoNode, Empty, Disconnected, NoMemory}
use Rattle.ir_plan.specs.declared.tour.LabelOrder.{LabelOrder}
use Rattle.ir_plan.specs.declared.building.Labels.{Labels}
use Rattle.ir_plan.specs.declared.building.Labels.TheVariants as given
use Rattle.ir_plan.specs.Starts.{IsLabelledBy}

-- By what nodes are labelled: depth first or by a tour from a root, or by the places of a list.
pub data Labelling : Type 0 where
  FromRoot : LabelOrder → ℕ → Labelling
  ByList : List ℕ → Labelling

-- the labels that a call is given
abbrev pub labelling_of : Labels → Labelling
labelling_of (given.FromRoot order root) = FromRoot order root
labelling_of (given.Listed list) = ByList list.items

-- the labels may be those of a plan of the kind: a list has each node once, and is of no tree
abbrev pub MayLabel : Topology → Kind → Labelling → Type 0
MayLabel topology kind (FromRoot order root) = Unit {0}
MayLabel topology kind (ByList list) = (kind ≢ Tree) × IsListing (node_count topology) list

-- a plan has these labels
abbrev pub IsLabelled : Labelling → Plan → Type 0
IsLabelled (FromRoot order root) plan = IsLabelledBy order plan × (plan.root ≡ root)
IsLabelled (ByList list) plan = plan.order ≡ list

-- A plan of this kind and these labels over the network.
pub record IsPlanBy (topology : Topology) (kind : Kind) (labels : Labelling) (plan : Plan) : Type 0 where
  pub valid : IsPlan plan
  pub over : plan.topology ≡ topology
  pub of_kind : plan.kind ≡ kind
  pub labelled : IsLabelled labels plan

-- the root is a node, or is past the last one; that of a list always is one
abbrev pub HasRoot : Topology → Labelling → Type 0
HasRoot topology (FromRoot order root) = root < node_count topology
HasRoot topology (ByList list) = Unit {0}

abbrev pub HasNoRoot : Topology → Labelling → Type 0
HasNoRoot topology (FromRoot order root) = node_count topology ≤ root
HasNoRoot topology (ByList list) = ⊥

-- Why there is no plan: the first that holds. Memory is wanted only where there is a node and a root.
abbrev pub RefusesPlan : Topology → Labelling → PlanError → Type 0
RefusesPlan topology labels Empty = node_count topology ≡ 0
RefusesPlan topology labels NoNode = (0 < node_count topology) × HasNoRoot topology labels
RefusesPlan topology labels Disconnected = (0 < node_count topology) × HasRoot topology labels × IsDisconnected topology
RefusesPlan topology labels NoMemory = (0 < node_count topology) × HasRoot topology labels
