-- What the texts of a topology and of a script, and the name of a root, come to before a run is opened over them.
use Rattle.std.specs.Prelude.{◌≡◌, ℕ, length, List, Option, None, Some, Result, Ok, MatchResult}
use Rattle.ir_model.specs.declared.Detour.{Detour}
use Rattle.ir_model.specs.Graph.{Name, Adjacency, names}
use Rattle.ir_model.specs.Topology.{Topology}
use Rattle.ir_model.specs.OfGraph.{topology_of_graph}
use Rattle.ir_script.specs.declared.fault.ScriptFault.{ScriptFault}
use Rattle.ir_script.specs.Script.{Listing, listing_from}
use Rattle.ir_cli.specs.declared.words.Words.{Words}
use Rattle.ir_cli.specs.declared.reply.RunReply.{RunReply}
use Rattle.ir_cli.specs.Answer.{Answer, Refused}
use Rattle.ir_cli.specs.Kinds.{detour_of}
use Rattle.ir_cli.specs.Lines.{script_line}
use Rattle.ir_cli.specs.Openings.{topology_fault, topology_graph, root_name, root_in, AnswersTopology, AnswersRoot}
use Rattle.ir_cli.specs.Notices.{notice_line}
use Rattle.ir_cli.specs.Replies.{answer_of}
use Rattle.ir_answer.specs.declared.asking.AnswerStop.{AnswerStop}
use Rattle.ir_answer.specs.declared.asking.AnswerStop.TheVariants as stops

-- the line of a refusal, of which this holds; or want of memory
abbrev pub StopsAs : AnswerStop → (List ℕ → Type 0) → Type 0
StopsAs (stops.Refused notice) refuses = refuses (notice_line notice)
StopsAs stops.NoMemory refuses = Unit {0}

-- an answer of these, a refusal among them, or want of memory
abbrev pub Gives : (Answer → Type 0) → Result RunReply AnswerStop → Type 0
Gives answers result = MatchResult result (λ reply. answers (answer_of reply)) (λ stop. StopsAs stop (λ line. answers (Refused line)))

module _ {A : Type 0} (says : Detour → List Name → Topology → List ℕ → Result (Option A) ScriptFault) where
  -- what a script over a graph says, whose landmark plans go round as the words have it
  abbrev pub script_said : Words → List (List ℕ) → Adjacency → Result (Listing A) (ℕ × ScriptFault)
  script_said words script g = listing_from (says (detour_of words.detour (length g))) (names g) (topology_of_graph g) 1 script

  -- The answer to a graph and the lines of a script, by what a line says. It is the script's first fault, or else the
  -- refusal of a root that is no node, or else an answer to the script and the root.
  abbrev pub AnswersScripted : Words → List (List ℕ) → (Adjacency → Listing A → ℕ → Answer → Type 0) → Adjacency → Answer → Type 0
  AnswersScripted words script answers g answer =
      MatchResult (script_said words script g)
      (λ listing. AnswersRoot g (root_name words) (answers g listing) answer)
      (λ f. answer ≡ Refused (script_line f))

  -- The graph, network, steps and root that these texts and the words give.
  pub record IsAsked (words : Words) (topology script : List (List ℕ)) (g : Adjacency) (network : Topology) (listing : Listing A) (root : ℕ) : Type 0 where
    pub sound : topology_fault words.format topology ≡ None
    pub graph : g ≡ topology_graph words.format topology
    pub over : network ≡ topology_of_graph g
    pub said : script_said words script g ≡ Ok listing
    pub root_is : root_in (names g) (root_name words) ≡ Some root

  -- the line of the first refusal that comes before any run: of the topology, of the script, or of the root
  abbrev pub RefusesAsked : Words → List (List ℕ) → List (List ℕ) → List ℕ → Type 0
  RefusesAsked words topology script line =
      AnswersTopology words.format topology (AnswersScripted words script (λ g listing root answer. ⊥)) (Refused line)
