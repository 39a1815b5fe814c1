-- What a graph, a root and a script come to as a run.
use Rattle.std.specs.Prelude.{◌≡◌, ◌≢◌, ℕ, ◌==◌, if◌then◌else◌, Bool, true, false, List, None, Result, Ok, Err, flat_map}
use Rattle.std.specs.List.{list_any, zip}
use Rattle.ir_model.specs.Graph.{Name, Adjacency, names}
use Rattle.ir_model.specs.Topology.{Topology}
use Rattle.ir_model.specs.OfGraph.{topology_of_graph}
use Rattle.ir_core.specs.declared.event.OpenError.{OpenError}
use Rattle.ir_core.specs.declared.event.OpenError.TheVariants as openings
use Rattle.ir_core.specs.declared.event.Reply.{Reply}
use Rattle.ir_core.specs.declared.event.Refused.{Refused as Refusal}
use Rattle.ir_core.specs.declared.event.Refused.TheVariants as refusals
use Rattle.ir_core.specs.Record.{Record}
use Rattle.ir_core.specs.Setting.{Setting}
use Rattle.ir_core.specs.World.{World}
use Rattle.ir_core.specs.Opened.{IsOpenedWith, IsOpenRefusal, open_refused}
use Rattle.ir_core.specs.Run.{IsPlayed}
use Rattle.ir_script.specs.declared.script.Script.{Script}
use Rattle.ir_core.specs.declared.event.Step.{Step}
use Rattle.ir_script.specs.Command.{line_step}
use Rattle.ir_script.specs.Script.{Listing}
use Rattle.ir_trace.specs.Written.{records_text, segments_text}
use Rattle.ir_steps.specs.Told.{IsTold}
use Rattle.ir_cli.specs.declared.words.Words.{Words}
use Rattle.ir_cli.specs.Answer.{Answer, Ran, Found, Refused, NoThread}
use Rattle.ir_cli.specs.Lines.{opening_line, reply_line}
use Rattle.ir_cli.specs.Openings.{opening_by}
use Rattle.ir_answer.specs.Stops.{AnswersScripted}

-- the steps or commands of a script, and beside each the number of its line
abbrev pub listing_in : {A : Type 0} → Script A → Listing A
listing_in script = record { steps = script.steps.items; lines = script.lines.items }

-- want of memory for a step
abbrev pub wants_memory : Result Reply Refusal → Bool
wants_memory (Ok reply) = false
wants_memory (Err refusals.NoMemory) = true
wants_memory (Err refusal) = false

-- a line for each step that was refused, in order, from the numbers of the steps' lines and the replies beside them
abbrev pub refused_text : List ℕ → List (Result Reply Refusal) → List ℕ
refused_text lines replies = flat_map reply_line (zip lines replies)

-- the trace of records: that of their segments where packets may be restamped
abbrev pub run_text : ℕ → List Name → Topology → List Record → List ℕ
run_text restamps nodes topology records = if restamps == 0 then records_text nodes topology records else segments_text nodes topology records

-- The steps of a script are played in a world that is opened over the network of the graph as the words say, and none
-- of them wants memory. The text is the trace of the world's records, and the refused lines are those of its replies.
pub record IsScriptRun (g : Adjacency) (words : Words) (root : ℕ) (script : Listing Step) (text refused : List ℕ) : Type 0 where
  pub setting : Setting
  pub replies : List (Result Reply Refusal)
  pub world : World
  pub accepted : open_refused (opening_by words (topology_of_graph g) root) ≡ None
  pub opened : IsOpenedWith (opening_by words (topology_of_graph g) root) setting
  pub played : IsPlayed setting script.steps replies world
  pub in_memory : list_any wants_memory replies ≡ false
  pub trace : text ≡ run_text words.restamps (names g) (topology_of_graph g) world.records
  pub told : refused ≡ refused_text script.lines replies

-- The same, of which the text has a line for each event that a step comes to.
pub record IsStepsRun (g : Adjacency) (words : Words) (root : ℕ) (script : Listing Step) (text refused : List ℕ) : Type 0 where
  pub setting : Setting
  pub replies : List (Result Reply Refusal)
  pub world : World
  pub accepted : open_refused (opening_by words (topology_of_graph g) root) ≡ None
  pub opened : IsOpenedWith (opening_by words (topology_of_graph g) root) setting
  pub steps : IsTold (names g) setting script.lines script.steps replies world text
  pub in_memory : list_any wants_memory replies ≡ false
  pub told : refused ≡ refused_text script.lines replies

-- the text of a run with its refused lines, or the refusal of the opening
abbrev pub AnswersRunBy : (Adjacency → Words → ℕ → Listing Step → List ℕ → List ℕ → Type 0) → Adjacency → Words → Listing Step → ℕ → Answer → Type 0
AnswersRunBy runs g words script root (Ran text refused) = runs g words root script text refused
AnswersRunBy runs g words script root (Found text) = ⊥
AnswersRunBy runs g words script root NoThread = ⊥
AnswersRunBy runs g words script root (Refused line) =
    (e : OpenError) × (e ≢ openings.NoMemory) × IsOpenRefusal (opening_by words (topology_of_graph g) root) e × (line ≡ opening_line e)

-- the answer to a graph, a script and the number of a root, by whether the words ask for the steps
abbrev pub AnswersRunIf : Bool → Adjacency → Words → Listing Step → ℕ → Answer → Type 0
AnswersRunIf true = AnswersRunBy IsStepsRun
AnswersRunIf false = AnswersRunBy IsScriptRun

abbrev pub AnswersRun : Adjacency → Words → Listing Step → ℕ → Answer → Type 0
AnswersRun g words script root answer = AnswersRunIf words.steps g words script root answer

-- the answer to a graph and the lines of a script: the script's first fault comes before the refusal of the opening
abbrev pub AnswersScript : Words → List (List ℕ) → Adjacency → Answer → Type 0
AnswersScript words script g answer = AnswersScripted line_step words script (λ g. AnswersRun g words) g answer
