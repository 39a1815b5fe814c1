-- What two topologies of the same nodes come to as the text of what each node changes between their plans.
use Rattle.std.specs.Prelude.{◌≡◌, ◌≢◌, ◌⊎◌, ℕ, Bool, false, if◌then◌else◌, List, [], ◌∷◌, length, Option, None, Some}
use Rattle.ir_model.specs.declared.Kind.{Kind}
use Rattle.ir_model.specs.Graph.{Name, Adjacency, names}
use Rattle.ir_model.specs.OfGraph.{topology_of_graph}
use Rattle.ir_model.specs.Plan.{Plan}
use Rattle.ir_plan.specs.declared.error.PlanError.{PlanError}
use Rattle.ir_plan.specs.declared.error.PlanError.TheVariants.{NoMemory}
use Rattle.ir_plan.specs.Building.{Labelling, IsPlanBy, RefusesPlan}
use Rattle.ir_core.specs.declared.event.OpenError.{OpenError}
use Rattle.ir_core.specs.Codes.{open_error_of}
use Rattle.ir_exports.specs.OrderText.{order_text}
use Rattle.ir_patches.specs.declared.nodes.OtherNode.{OtherNode}
use Rattle.ir_patches.specs.declared.nodes.OtherNode.TheVariants.{Unknown, Missing}
use Rattle.ir_patches.specs.Nodes.{HaveSameNodes, IsOtherNode}
use Rattle.ir_patches.specs.DiffText.{TwoPlans, diff_text}
use Rattle.ir_cli.specs.declared.kinds.KindChoice.{KindChoice}
use Rattle.ir_cli.specs.declared.words.NumberingChoice.{NumberingChoice}
use Rattle.ir_cli.specs.declared.words.NumberingChoice.TheVariants.{Keep, KeepDepthFirst}
use Rattle.ir_cli.specs.declared.words.Words.{Words}
use Rattle.ir_cli.specs.declared.read.Source.{Source}
use Rattle.ir_cli.specs.declared.read.Source.TheVariants.{Input, Topology, New}
use Rattle.ir_cli.specs.Answer.{Answer, Ran, Refused}
use Rattle.ir_cli.specs.Lines.{new_node_line, gone_line, opening_line, new_opening_line}
use Rattle.ir_cli.specs.Openings.{kind_asked, AnswersNew}
use Rattle.ir_cli.specs.Words.{is_one_input, takes_list}
use Rattle.ir_answer.specs.Looks.{AnswersLabels}

-- the inputs of `diff`, in the order of reading
abbrev pub diff_sources : Words → List Source
diff_sources words = if is_one_input words then Input ∷ [] else Topology ∷ New ∷ []

-- the new plan keeps the labels of the old one
abbrev pub is_kept : NumberingChoice → KindChoice → Bool
is_kept Keep kind = takes_list kind
is_kept KeepDepthFirst kind = takes_list kind
is_kept numbering kind = false

abbrev pub keeps_labels : Words → Bool
keeps_labels words = is_kept words.numbering words.kind

-- the order that it keeps, as `plan --order` prints it of the old plan and `--numbering` reads it of a file
abbrev pub order_kept : Words → List Name → Plan → Option (List ℕ)
order_kept words nodes plan = if keeps_labels words then Some (order_text nodes plan) else None

-- the line of a node that one of two networks has alone
abbrev pub other_line : OtherNode → List ℕ
other_line (Unknown u) = new_node_line
other_line (Missing u) = gone_line

abbrev pub IsOtherLine : (old new : List Name) → List ℕ → Type 0
IsOtherLine old new line = (other : OtherNode) × IsOtherNode old new other × (line ≡ other_line other)

-- why there is no plan of the graph by these labels, other than for memory
abbrev pub RefusesPlanAs : Adjacency → Labelling → OpenError → Type 0
RefusesPlanAs g labels e = (error : PlanError) × (error ≢ NoMemory) × RefusesPlan (topology_of_graph g) labels error × (e ≡ open_error_of error)

-- The answer to a graph, a kind and labels: their plan's refusal, by its line, or else an answer to a plan of theirs.
abbrev pub AnswersPlan : (OpenError → List ℕ) → Adjacency → Kind → Labelling → (Plan → Answer → Type 0) → Answer → Type 0
AnswersPlan line_of g kind labels answers answer =
    ((plan : Plan) × IsPlanBy (topology_of_graph g) kind labels plan × answers plan answer)
    ⊎ ((e : OpenError) × RefusesPlanAs g labels e × (answer ≡ Refused (line_of e)))

-- the answer to two plans: the text of what each node changes
abbrev pub AnswersChange : Adjacency → Plan → Adjacency → Plan → Answer → Type 0
AnswersChange old_graph old new_graph new answer =
    let p : TwoPlans = record { old_nodes = names old_graph; old = old; new_nodes = names new_graph; new = new } in
    answer ≡ Ran (diff_text p) []

-- the answer to the old plan: that to it and a plan of the new graph, whose labels are those of the old plan where it keeps
-- them
abbrev pub AnswersOther : Words → (old new : Adjacency) → Plan → Answer → Type 0
AnswersOther words old new plan =
    AnswersLabels words (order_kept words (names old) plan) new
    (λ labels. AnswersPlan new_opening_line new (kind_asked words (length new)) labels (AnswersChange old plan new))

-- the answer to two graphs of the same nodes: that to a plan of the old one, from the root that the words name
abbrev pub AnswersPlans : Words → (old new : Adjacency) → Answer → Type 0
AnswersPlans words old new =
    AnswersLabels words None old (λ labels. AnswersPlan opening_line old (kind_asked words (length old)) labels (AnswersOther words old new))

-- the answer to two graphs: the line of a node that one of them has alone, or else that to graphs of the same nodes
abbrev pub AnswersGraphs : Words → (old new : Adjacency) → Answer → Type 0
AnswersGraphs words old new answer =
    (HaveSameNodes (names old) (names new) × AnswersPlans words old new answer)
    ⊎ ((line : List ℕ) × IsOtherLine (names old) (names new) line × (answer ≡ Refused line))

-- the answer to the old graph and the lines of the new topology: the first fault of these, or else that to both graphs
abbrev pub AnswersDiff : Words → List (List ℕ) → Adjacency → Answer → Type 0
AnswersDiff words new old = AnswersNew words.new_format new (AnswersGraphs words old)
