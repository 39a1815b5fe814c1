-- What the words ask for: which inputs are read, and the answers to their texts.
use Rattle.std.specs.Prelude.{◌≡◌, ℕ, if◌then◌else◌, List, [], ◌∷◌}
use Rattle.ir_model.specs.Text.{lines}
use Rattle.ir_cli.specs.declared.words.Words.{Words}
use Rattle.ir_cli.specs.declared.read.Source.{Source}
use Rattle.ir_cli.specs.declared.read.Source.TheVariants.{Input, Topology, Script, Trace, Numbering}
use Rattle.ir_cli.specs.declared.words.Sub.{Sub}
use Rattle.ir_cli.specs.declared.words.Sub.TheVariants.{Plan, Walk, Stats, Compare, Diff, Draw, Prefixes, Ranges, Xdp, Sim, Live, Check}
use Rattle.ir_answer.specs.Looks.{LookAnswers}
use Rattle.ir_answer.specs.Compares.{compare_sources, CompareAnswers}
use Rattle.ir_answer.specs.Diffs.{diff_sources, AnswersDiff}
use Rattle.ir_cli.specs.Answer.{Answer, NoThread}
use Rattle.ir_cli.specs.Words.{is_one_input, has_order, FitsItsKind}
use Rattle.ir_cli.specs.Cut.{topology_part, script_part, EndsWithBytes}
use Rattle.ir_cli.specs.Openings.{AnswersTopology}
use Rattle.ir_answer.specs.Plays.{AnswersScript}
use Rattle.ir_answer.specs.Checks.{AnswersChecked}
use Rattle.ir_answer.specs.Formed.{InForm}

-- the inputs of `plan`, `walk`, `stats`, `draw`, `prefixes`, `ranges` and `xdp`, of `sim` and `live`, and of `check`, in
-- the order of reading
abbrev pub look_sources : Words → List Source
look_sources words = (if is_one_input words then Input else Topology) ∷ (if has_order words then Numbering ∷ [] else [])

abbrev pub sim_sources : Words → List Source
sim_sources words = if is_one_input words then Input ∷ [] else Topology ∷ Script ∷ []

abbrev pub check_sources : Words → List Source
check_sources words = if is_one_input words then Input ∷ [] else Topology ∷ Script ∷ Trace ∷ []

-- the texts of a topology and of a script, or of two topologies: the parts of one text that is cut, or two texts
abbrev pub AreTwo : List (List ℕ) → List ℕ → List ℕ → Type 0
AreTwo [] topology script = ⊥
AreTwo (input ∷ []) topology script = (lines topology ≡ topology_part (lines input)) × (lines script ≡ script_part (lines input))
AreTwo (first ∷ second ∷ []) topology script = (topology ≡ first) × (script ≡ second)
AreTwo (first ∷ second ∷ third ∷ texts) topology script = ⊥

-- the texts of a topology, of a script and of a trace: the parts of one text that is cut, or three texts
abbrev pub AreThree : List (List ℕ) → List ℕ → List ℕ → List ℕ → Type 0
AreThree [] topology script trace = ⊥
AreThree (input ∷ []) topology script trace =
    (lines topology ≡ topology_part (lines input)) × (lines script ≡ topology_part (script_part (lines input)))
    × (lines trace ≡ script_part (script_part (lines input))) × EndsWithBytes input trace
AreThree (first ∷ second ∷ []) topology script trace = ⊥
AreThree (first ∷ second ∷ third ∷ []) topology script trace = (topology ≡ first) × (script ≡ second) × (trace ≡ third)
AreThree (first ∷ second ∷ third ∷ fourth ∷ texts) topology script trace = ⊥

-- the answers of `diff`, of `sim` and of `check` to the texts of their inputs
abbrev pub DiffAnswers : Words → List (List ℕ) → Answer → Type 0
DiffAnswers words texts answer =
    (old new : List ℕ) × AreTwo texts old new × AnswersTopology words.format (lines old) (AnswersDiff words (lines new)) answer

abbrev pub SimAnswers : Words → List (List ℕ) → Answer → Type 0
SimAnswers words texts answer =
    (topology script : List ℕ) × AreTwo texts topology script
    × AnswersTopology words.format (lines topology) (AnswersScript words (lines script)) answer

abbrev pub CheckAnswers : Words → List (List ℕ) → Answer → Type 0
CheckAnswers words texts answer =
    (topology script trace : List ℕ) × AreThree texts topology script trace
    × AnswersTopology words.format (lines topology) (AnswersChecked words (lines script) trace) answer

-- the same, by the subcommand
abbrev pub sources_by : Sub → Words → List Source
sources_by Plan words = look_sources words
sources_by Walk words = look_sources words
sources_by Stats words = look_sources words
sources_by Compare words = compare_sources words
sources_by Diff words = diff_sources words
sources_by Draw words = look_sources words
sources_by Prefixes words = look_sources words
sources_by Ranges words = look_sources words
sources_by Xdp words = look_sources words
sources_by Sim words = sim_sources words
sources_by Live words = sim_sources words
sources_by Check words = check_sources words

abbrev pub sources_of : Words → List Source
sources_of words = sources_by words.sub words

-- the words may be those of the subcommand: where a plan is shown, an order that is a file's is of no tree
abbrev pub FitsSub : Sub → Words → Type 0
FitsSub Sim words = Unit {0}
FitsSub Live words = Unit {0}
FitsSub Check words = Unit {0}
FitsSub Compare words = Unit {0}
FitsSub Diff words = Unit {0}
FitsSub sub words = FitsItsKind words

-- the answers of a subcommand as text, of which those of `live` are another crate's
module _ (live : Words → List (List ℕ) → Answer → Type 0) where
  abbrev pub PlainBy : Sub → Words → List (List ℕ) → Answer → Type 0
  PlainBy Plan words texts answer = LookAnswers Plan words texts answer
  PlainBy Walk words texts answer = LookAnswers Walk words texts answer
  PlainBy Stats words texts answer = LookAnswers Stats words texts answer
  PlainBy Compare words texts answer = CompareAnswers words texts answer
  PlainBy Diff words texts answer = DiffAnswers words texts answer
  PlainBy Draw words texts answer = LookAnswers Draw words texts answer
  PlainBy Prefixes words texts answer = LookAnswers Prefixes words texts answer
  PlainBy Ranges words texts answer = LookAnswers Ranges words texts answer
  PlainBy Xdp words texts answer = LookAnswers Xdp words texts answer
  PlainBy Sim words texts answer = SimAnswers words texts answer
  PlainBy Live words texts answer = live words texts answer
  PlainBy Check words texts answer = CheckAnswers words texts answer

  -- the same in the form that the words ask for
  abbrev pub AnswersBy : Sub → Words → List (List ℕ) → Answer → Type 0
  AnswersBy sub words texts answer = InForm sub words (PlainBy sub words) texts answer

  -- the answers to the texts of the inputs that the words ask for
  abbrev pub Answers : Words → List (List ℕ) → Answer → Type 0
  Answers words texts answer = AnswersBy words.sub words texts answer

-- the answer of `live` where no thread is started
abbrev pub NoThreads : Words → List (List ℕ) → Answer → Type 0
NoThreads words texts answer = answer ≡ NoThread
