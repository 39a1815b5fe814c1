-- A walk of a plan that is not built.
use Rattle.std.specs.Prelude.{ℕ, List}
use Rattle.ir_model.specs.declared.Kind.{Kind}
use Rattle.ir_model.specs.Graph.{Name}
use Rattle.ir_model.specs.Topology.{Topology}
use Rattle.ir_model.specs.Plan.{Plan}
use Rattle.ir_plan.specs.Building.{Labelling, IsPlanBy}
use Rattle.ir_show.specs.WalkText.{IsWalkOf}

-- The text is that of the walk from a to b in a plan of a kind and these labels over the network.
pub record IsWalkOfPlan (nodes : List Name) (topology : Topology) (kind : Kind) (labels : Labelling) (a b : ℕ) (text : List ℕ) : Type 0 where
  pub plan : Plan
  pub built : IsPlanBy topology kind labels plan
  pub walks : IsWalkOf nodes plan a b text
