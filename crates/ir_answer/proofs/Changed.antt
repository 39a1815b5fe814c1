-- The answers that say what nodes change between two plans, by what was read before these are built.
use Rattle.std.proofs.Common.{◌≡◌, ◌≢◌, ℕ, true, List, Option, Some, None, MatchOption, inr, sym, ap, subst, true≢false}
use Rattle.ir_model.specs.declared.Fault.{Fault}
use Rattle.ir_model.specs.declared.Kind.{Kind}
use Rattle.ir_model.specs.Graph.{Adjacency}
use Rattle.ir_cli.specs.declared.kinds.KindChoice.{KindChoice}
use Rattle.ir_cli.specs.declared.words.Format.{Format}
use Rattle.ir_cli.specs.declared.words.NumberingChoice.{NumberingChoice}
use Rattle.ir_cli.specs.declared.words.NumberingChoice.TheVariants.{DepthFirst, Tour, Keep, KeepDepthFirst, File}
use Rattle.ir_cli.specs.Answer.{Answer, Refused}
use Rattle.ir_cli.specs.Lines.{new_line}
use Rattle.ir_cli.specs.Openings.{topology_fault, topology_graph, AnswersNew}
use Rattle.ir_cli.specs.Words.{takes_list}
use Rattle.ir_core.specs.declared.event.OpenError.{OpenError}
use Rattle.ir_core.specs.declared.event.OpenError.TheVariants as openings
use Rattle.ir_model.specs.Plan.{Plan}
use Rattle.ir_plan.specs.Building.{Labelling}
use Rattle.ir_answer.specs.declared.asking.AnswerStop.{AnswerStop}
use Rattle.ir_answer.specs.Stops.{StopsAs}
use Rattle.ir_answer.specs.Diffs.{is_kept, AnswersPlan, RefusesPlanAs}
use Rattle.ir_answer.proofs.Answering.{stops_more}

-- labels that are kept are of a kind that takes another order than depth first
pub kept_takes : (numbering : NumberingChoice) (kind : KindChoice) → is_kept numbering kind ≡ true → takes_list kind ≡ true
kept_takes DepthFirst kind is = absurd (true≢false (sym is))
kept_takes Tour kind is = absurd (true≢false (sym is))
kept_takes Keep kind is = is
kept_takes KeepDepthFirst kind is = is
kept_takes (File name) kind is = absurd (true≢false (sym is))

-- the first fault of a new topology is its answer
pub of_new_fault : (format : Format) (ls : List (List ℕ)) (answers : Adjacency → Answer → Type 0) (line : List ℕ)
    → (f : ℕ × Fault) × (topology_fault format ls ≡ Some f) × (line ≡ new_line f) → AnswersNew format ls answers (Refused line)
of_new_fault format ls answers line (f, is, told) =
    subst (λ (first : Option (ℕ × Fault)). MatchOption first (answers (topology_graph format ls) (Refused line)) (λ g. Refused line ≡ Refused (new_line g))) (sym is) (ap Refused told)

-- without a fault, an answer to its graph is one
pub of_new : (format : Format) (ls : List (List ℕ)) (answers : Adjacency → Answer → Type 0) (g : Adjacency) (answer : Answer)
    → topology_fault format ls ≡ None → g ≡ topology_graph format ls → answers g answer → AnswersNew format ls answers answer
of_new format ls answers g answer sound graph holds =
    subst (λ (first : Option (ℕ × Fault)). MatchOption first (answers (topology_graph format ls) answer) (λ f. answer ≡ Refused (new_line f))) (sym sound)
    (subst (λ (h : Adjacency). answers h answer) graph holds)

-- what refuses a plan is an answer to its labels
pub without_plan : (line_of : OpenError → List ℕ) (g : Adjacency) (kind : Kind) (labels : Labelling) (answers : Plan → Answer → Type 0) (e : OpenError)
    → (e ≢ openings.NoMemory → RefusesPlanAs g labels e) → (stop : AnswerStop) → StopsAs stop (λ line. (e ≢ openings.NoMemory) × (line ≡ line_of e))
    → StopsAs stop (λ line. AnswersPlan line_of g kind labels answers (Refused line))
without_plan line_of g kind labels answers e refused stop stops =
    stops_more (λ (line : List ℕ). (e ≢ openings.NoMemory) × (line ≡ line_of e)) (λ (line : List ℕ). AnswersPlan line_of g kind labels answers (Refused line))
    (λ line is. inr (e, refused is.0, ap Refused is.1)) stop stops
