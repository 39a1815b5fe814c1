-- What a graph and labels come to as a text of their plan.
use Rattle.std.specs.Prelude.{◌≡◌, ◌≢◌, List, [], ℕ}
use Rattle.ir_model.specs.declared.Kind.{Kind}
use Rattle.ir_model.specs.Graph.{Adjacency}
use Rattle.ir_model.specs.OfGraph.{topology_of_graph}
use Rattle.ir_model.specs.Plan.{Plan}
use Rattle.ir_plan.specs.declared.error.PlanError.{PlanError}
use Rattle.ir_plan.specs.declared.error.PlanError.TheVariants.{NoMemory}
use Rattle.ir_plan.specs.Building.{Labelling, IsPlanBy, RefusesPlan}
use Rattle.ir_core.specs.Codes.{open_error_of}
use Rattle.ir_cli.specs.Answer.{Answer, Ran, Found, Refused, NoThread}
use Rattle.ir_cli.specs.Lines.{opening_line}

-- The text is what is said of a plan of this kind and these labels over the network of the graph.
pub record IsTextOfPlan (g : Adjacency) (kind : Kind) (labels : Labelling) (says : Plan → List ℕ → Type 0) (text : List ℕ) : Type 0 where
  pub plan : Plan
  pub built : IsPlanBy (topology_of_graph g) kind labels plan
  pub said : says plan text

-- the answer to a graph and labels: a text of their plan, or the plan's refusal, other than for memory
abbrev pub AnswersText : Adjacency → Kind → Labelling → (Plan → List ℕ → Type 0) → Answer → Type 0
AnswersText g kind labels says (Ran text refusals) = IsTextOfPlan g kind labels says text × (refusals ≡ [])
AnswersText g kind labels says (Found text) = ⊥
AnswersText g kind labels says NoThread = ⊥
AnswersText g kind labels says (Refused line) =
    (error : PlanError) × (error ≢ NoMemory) × RefusesPlan (topology_of_graph g) labels error × (line ≡ opening_line (open_error_of error))
