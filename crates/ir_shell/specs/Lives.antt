-- What a graph, a root and a script come to as a live run.
use Rattle.std.specs.Prelude.{◌≡◌, ◌≢◌, ◌+◌, ◌<◌, ◌^◌, ◌⊎◌, ℕ, Bool, true, false, List, None, flat_map, slice_index_or}
use Rattle.std.specs.Borrow.{Bor}
use Rattle.std.specs.List.{list_any}
use Rattle.ir_model.specs.Graph.{Adjacency, names}
use Rattle.ir_model.specs.OfGraph.{topology_of_graph}
use Rattle.ir_model.specs.Topology.{node_count}
use Rattle.ir_core.specs.declared.event.Refused.{Refused as Refusal}
use Rattle.ir_core.specs.declared.event.Refused.TheVariants as refusals
use Rattle.ir_core.specs.declared.event.OpenError.{OpenError}
use Rattle.ir_core.specs.declared.event.OpenError.TheVariants as openings
use Rattle.ir_core.specs.Opened.{open_refused}
use Rattle.ir_core.specs.declared.command.Command.{Command}
use Rattle.ir_control.specs.declared.net.Net.{Net}
use Rattle.ir_control.specs.declared.starter.Starter as Starter
use Rattle.ir_links.specs.declared.moments.Moments as Moments
use Rattle.ir_epochs.specs.declared.looks.Looks as Looks
use Rattle.ir_control.specs.Nets.{IsNetFor}
use Rattle.ir_control.specs.Opened.{IsNetRefusal}
use Rattle.ir_worker.specs.Seen.{Parcel}
use Rattle.ir_control.specs.declared.live.Live.{Live}
use Rattle.ir_control.specs.Lives.{IsLive}
use Rattle.ir_script.specs.Command.{line_command}
use Rattle.ir_script.specs.Script.{Listing}
use Rattle.ir_cli.specs.declared.words.Words.{Words}
use Rattle.ir_cli.specs.Answer.{Answer, Ran, Found, Refused, NoThread}
use Rattle.ir_cli.specs.Lines.{opening_line, refused_line}
use Rattle.ir_cli.specs.Openings.{opening_by}
use Rattle.ir_answer.specs.Stops.{AnswersScripted}
use Rattle.ir_answer.specs.Plays.{run_text}

-- want of memory for a command, which is at a place among the commands
abbrev pub is_for_memory : ℕ × Refusal → Bool
is_for_memory (place, refusals.NoMemory) = true
is_for_memory (place, refusal) = false

-- the line of a command that was refused: the number is that of the command's line
abbrev pub refusal_line : List ℕ → ℕ × Refusal → List ℕ
refusal_line lines refusal = refused_line (slice_index_or lines refusal.0 0) refusal.1

-- a line for each command that was refused, in order
abbrev pub refusals_text : List ℕ → List (ℕ × Refusal) → List ℕ
refusals_text lines refusals = flat_map (refusal_line lines) refusals

-- A net that is opened over the network of the graph as the words say.
pub record IsOpenedNet (g : Adjacency) (words : Words) (root : ℕ) (net : Net) : Type 0 where
  pub accepted : open_refused (opening_by words (topology_of_graph g) root) ≡ None
  pub opened : IsNetFor (opening_by words (topology_of_graph g) root) net

-- In the word that the flag was set: a node of a script's run ends where it was set, or at the last
-- number of a turn. Its gate bars no turn.
abbrev pub ends_unbarred : Type 0 → ℕ → ℕ → Type 0
ends_unbarred was_stopped node turns = was_stopped ⊎ (⊥ ⊎ (turns + 1 ≡ 2 ^ 64))

-- why nothing runs over a net: it is not opened, or the board of one that was opened has no place for a reader of each node
abbrev pub RefusesNet : Adjacency → Words → ℕ → OpenError → Type 0
RefusesNet g words root e =
    IsNetRefusal (opening_by words (topology_of_graph g) root) e ⊎ ((e ≡ openings.TooManyReaders) × (net : Net) × IsOpenedNet g words root net)

-- In the words of a runtime: for a refused push and a refused pop, for a look at a board, for a flag that was set.
-- Further for a thread that was not started, for a node that was shown as it came back, and for an injector that was
-- shown after the commands.
module _ {T Place : Type 0} (moments : Moments.Ghosts T Parcel Place)
    (looks : Looks.Ghosts T Parcel) (starter : Starter.Ghosts T) (rt : T) where
  -- The commands of a script are carried out over such a net while its nodes turn on threads of their own, and none of
  -- them wants memory. The text is the trace of the records that are reported, each of which is a sound record by the
  -- plans of its epochs. Epoch 1 has the plan that the words ask for, and each other epoch the one that its install of
  -- the script asked for. The refused lines are those of the commands that were refused.
  pub record IsLiveRun (g : Adjacency) (words : Words) (root : ℕ) (script : Listing Command) (text refused : List ℕ) : Type 0 where
    pub net : Net
    pub live : Live
    pub opened : IsOpenedNet g words root net
    pub ran : IsLive (Bor T) moments.was_full moments.was_empty looks.looked
        (ends_unbarred (starter.was_stopped rt)) (starter.came_back rt) (starter.was_closed rt)
        net script.steps live
    pub in_memory : list_any is_for_memory live.refusals.items ≡ false
    pub trace : text ≡ run_text words.restamps (names g) (topology_of_graph g) live.report.records.items
    pub told : refused ≡ refusals_text script.lines live.refusals.items

  -- the answer to a graph, a script and a root: the script's live run, the refusal of the opening, or
  -- that the thread of a node of an opened net was not started
  abbrev pub AnswersLive : Adjacency → Words → Listing Command → ℕ → Answer → Type 0
  AnswersLive g words script root (Ran text refused) = IsLiveRun g words root script text refused
  AnswersLive g words script root (Found text) = ⊥
  AnswersLive g words script root (Refused line) =
      (e : OpenError) × (e ≢ openings.NoMemory) × RefusesNet g words root e × (line ≡ opening_line e)
  AnswersLive g words script root NoThread =
      (net : Net) × IsOpenedNet g words root net × ((u : ℕ) × (u < node_count net.topology) × starter.unstarted rt u)

  -- the answer to a graph and the lines of a script: the script's first fault comes before the refusal of the opening
  abbrev pub AnswersLiveScript : Words → List (List ℕ) → Adjacency → Answer → Type 0
  AnswersLiveScript words script g answer = AnswersScripted line_command words script (λ g. AnswersLive g words) g answer
