-- What a topology comes to as the text that compares its plans.
use Rattle.std.specs.Prelude.{◌≡◌, ◌≢◌, ℕ, if◌then◌else◌, List, [], ◌∷◌, length}
use Rattle.ir_model.specs.declared.Detour.{Detour}
use Rattle.ir_model.specs.Graph.{Adjacency}
use Rattle.ir_model.specs.OfGraph.{topology_of_graph}
use Rattle.ir_model.specs.Text.{lines}
use Rattle.ir_plan.specs.declared.error.PlanError.{PlanError}
use Rattle.ir_plan.specs.declared.error.PlanError.TheVariants.{NoMemory}
use Rattle.ir_plan.specs.declared.tour.LabelOrder.TheVariants.{DepthFirst}
use Rattle.ir_plan.specs.Building.{FromRoot, RefusesPlan}
use Rattle.ir_core.specs.Codes.{open_error_of}
use Rattle.ir_figures.specs.Compared.{IsComparison}
use Rattle.ir_cli.specs.declared.words.Words.{Words}
use Rattle.ir_cli.specs.declared.read.Source.{Source}
use Rattle.ir_cli.specs.declared.read.Source.TheVariants.{Input, Topology}
use Rattle.ir_cli.specs.Answer.{Answer, Ran, Found, Refused, NoThread}
use Rattle.ir_cli.specs.Kinds.{AreCompared, landmarks_for}
use Rattle.ir_cli.specs.Lines.{opening_line}
use Rattle.ir_cli.specs.Openings.{root_name, AnswersTopology, AnswersRoot}
use Rattle.ir_cli.specs.Words.{is_one_input}

-- the input of `compare`
abbrev pub compare_sources : Words → List Source
compare_sources words = (if is_one_input words then Input else Topology) ∷ []

-- The answer to a graph and a root: the text that compares its plans, or the refusal of these, other than for memory.
abbrev pub AnswersComparison : Adjacency → ℕ → Answer → Type 0
AnswersComparison g root (Ran text refusals) =
    (detours : Detour × Detour × Detour) × AreCompared (landmarks_for (length g)) detours × IsComparison (topology_of_graph g) root detours text × (refusals ≡ [])
AnswersComparison g root (Found text) = ⊥
AnswersComparison g root NoThread = ⊥
AnswersComparison g root (Refused line) =
    (error : PlanError) × (error ≢ NoMemory) × RefusesPlan (topology_of_graph g) (FromRoot DepthFirst root) error × (line ≡ opening_line (open_error_of error))

-- the answers to the text of a topology
abbrev pub CompareAnswers : Words → List (List ℕ) → Answer → Type 0
CompareAnswers words texts answer =
    (topology : List ℕ) × (texts ≡ topology ∷ [])
    × AnswersTopology words.format (lines topology) (λ g. AnswersRoot g (root_name words) (AnswersComparison g)) answer
