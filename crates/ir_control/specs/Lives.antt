-- What a live run answers.
use Rattle.std.specs.Prelude.{◌≡◌, ◌≢◌, ℕ, ◌<◌, List, ◌∷◌, All, Some, length, slice_get, slice_index_or}
use mathlib.Core.List.{IsPrefix}
use Rattle.ir_model.specs.Topology.{node_count}
use Rattle.ir_core.specs.Sound.{IsSoundRecord}
use Rattle.ir_core.specs.declared.command.Command.{Command}
use Rattle.ir_core.specs.declared.packet.Fate.TheVariants.{Left}
use Rattle.ir_core.specs.Record.{Record}
use Rattle.ir_epochs.specs.declared.entry.Entry.{Entry}
use Rattle.ir_epochs.specs.Handles.{known, published, reader_board, writer_board}
use Rattle.ir_links.specs.Ends.{Word}
use Rattle.ir_epochs.specs.Looks.{Look}
use Rattle.ir_worker.specs.declared.node.Node.{Node}
use Rattle.ir_worker.specs.Same.{IsSameNode}
use Rattle.ir_worker.specs.declared.node.Turn.{Turn}
use Rattle.ir_worker.specs.Seen.{Parcel}
use Rattle.ir_worker.specs.Turns.{AreTurns, HadCause}
use Rattle.ir_control.specs.declared.injector.Injector.{Injector}
use Rattle.ir_control.specs.declared.net.Net.{Net}
use Rattle.ir_control.specs.declared.controller.Controller.{Controller}
use Rattle.ir_control.specs.Nets.{first_plan}
use Rattle.ir_control.specs.Parts.{AreNodesOf, IsInjectorOf, AreFreshParts}
use Rattle.ir_control.specs.Reported.{AreAllThere}
use Rattle.ir_control.specs.Reports.{IsReport}
use Rattle.ir_control.specs.Desks.{Desk}
use Rattle.ir_control.specs.declared.report.Report.{Report}
use Rattle.ir_control.specs.declared.live.Live.{Live}
use Rattle.ir_control.specs.declared.live.LiveError.{LiveError}
use Rattle.ir_control.specs.declared.live.LiveError.TheVariants.{Spent, NoThread, NoMemory, TooManyReaders}
use Rattle.ir_control.specs.Answers.{CommandAnswer, refusals_from, accepted_from}
use Rattle.ir_control.specs.Planned.{Planned, planned, stamps_in, IsPlanIn, all_marked, AreAsked}
use Rattle.ir_control.specs.Carried.{AreCarriedOut}

-- the same nodes, in the same order
pub record AreSameNodes (before after : List Node) : Type 0 where
  pub count : length after ≡ length before
  pub each : (k : ℕ) (d e : Node) → k < length before → IsSameNode (slice_index_or before k d) (slice_index_or after k e)

-- Each node made a list of turns, and might end after so many.
abbrev pub HaveTurned : Word Parcel → Word Parcel → Look Parcel → (ℕ → ℕ → Type 0) → List Node → List Node → Type 0
HaveTurned was_full was_empty looked may_end before after =
    (k : ℕ) (d e : Node) → k < length before
    → (turns : List Turn) × AreTurns was_full was_empty looked (slice_index_or before k d) turns (slice_index_or after k e) × may_end (slice_index_or before k d).index (length turns)

-- One of the nodes settled the packet of this record, in a turn between those from when it was handed out to when it
-- came back. The cause that the record's fate names held, on a board of a beginning of these entries.
abbrev pub WasSettled : Word Parcel → Word Parcel → Look Parcel → List Entry → List Node → List Node → Record → Type 0
WasSettled was_full was_empty looked entries before after r =
    (u : ℕ) × (a : Node) × (b : Node) × (slice_get before u ≡ Some a) × (slice_get after u ≡ Some b) × HadCause was_full was_empty looked entries a b r

-- Carried out: the parts of a net were handed out, and each command had its answer of the
-- injector and the controller.
pub record HasCarriedOut (B : Type 0) (was_full : Word Parcel) (was_closed : Injector → Type 0)
    (net : Net) (commands : List Command) (live : Live) : Type 0 where
  -- the nodes that were handed out
  pub first : List Node
  -- the injector and the controller that were handed out with them
  pub opened : Desk B
  pub handed_out : AreFreshParts net first opened.injector opened.controller
  -- the answer of each command, in order
  pub answers : List CommandAnswer
  -- the injector and the controller after the commands
  pub closed : Desk B
  pub carried_out : AreCarriedOut was_full commands opened answers closed
  -- the refusals are those of the refused commands, with their places
  pub refusals : live.refusals.items ≡ refusals_from 0 answers
  -- this injector was shown after the commands
  pub injector_shown : was_closed closed.injector
  -- it accepted the packets that the commands put in
  pub accepted : closed.injector.accepted.items ≡ accepted_from 0 1 commands answers

-- Turned: these nodes turned and came back, of a net whose controller published these entries.
pub record HaveComeBack (was_full was_empty : Word Parcel) (looked : Look Parcel)
    (may_end : ℕ → ℕ → Type 0) (came_back : Node → Type 0) (first : List Node)
    (entries : List Entry) : Type 0 where
  -- the nodes that came back, which are the same, in the same order
  pub last : List Node
  pub same_nodes : AreSameNodes first last
  -- each made a list of turns, and might end after so many
  pub turned : HaveTurned was_full was_empty looked may_end first last
  -- each of these very nodes was shown as it came back
  pub shown : All came_back last
  -- each has read nothing that was not published
  pub read : All (λ n. IsPrefix (known n.reader) entries) last

-- Reported: the report is that of the nodes that came back, and of the packets that the injector
-- accepted, of a net whose controller published these entries.
pub record IsReported (was_full was_empty : Word Parcel) (looked : Look Parcel) (net : Net)
    (first last : List Node) (injector : Injector) (entries : List Entry) (report : Report)
    : Type 0 where
  -- the nodes are those of the net, each is there, and the injector is the net's
  pub nodes_of : AreNodesOf net last
  pub all_there : AreAllThere net last
  pub injector_of : IsInjectorOf net injector
  -- what is reported is what the nodes settled and what is left
  pub told : IsReport net last injector report
  -- each packet that is not reported as left was settled by a node, for a cause that held
  pub causes : All (λ r. r.fate ≢ Left → WasSettled was_full was_empty looked entries first last r)
      report.records.items

-- Sound: each record is sound by the plans of its epochs, by these answers of the commands.
pub record AreSoundByPlans (net : Net) (commands : List Command) (answers : List CommandAnswer)
    (records : List Record) : Type 0 where
  -- epoch 1 has the opening's plan, and each other epoch is that of an install
  pub plans : List Planned
  pub plans_are :
      plans ≡ record { epoch = 1; plan = first_plan net } ∷ planned (stamps_in answers)
  -- its plan is of the kind that was asked for, over the links that were up and heeded then,
  -- labelled in the net's order from the root, or as the epoch before, where the net keeps that; at
  -- first all links are up and heeded
  pub asked : AreAsked net.labels net.keeps net.topology
      (all_marked (length net.topology.links) (first_plan net).order) 1 commands answers
  pub sound : All (λ r. ∥ IsSoundRecord net.restamps (IsPlanIn plans) r ∥₁) records

-- A live run of a net. The words record refused pushes and pops, looks at the board, and after how
-- many turns a node of a number may end. They also record nodes that were shown as they came back,
-- and an injector that was shown after the commands.
pub record IsLive (B : Type 0) (was_full was_empty : Word Parcel) (looked : Look Parcel)
    (may_end : ℕ → ℕ → Type 0) (came_back : Node → Type 0) (was_closed : Injector → Type 0)
    (net : Net) (commands : List Command) (live : Live) : Type 0 where
  pub carried : HasCarriedOut B was_full was_closed net commands live
  pub turned : HaveComeBack was_full was_empty looked may_end came_back carried.first
      (published carried.closed.controller.writer)
  pub reported : IsReported was_full was_empty looked net carried.first turned.last
      carried.closed.injector (published carried.closed.controller.writer) live.report
  pub sound : AreSoundByPlans net commands carried.answers live.report.records.items

-- a thread was not started only where the starter has a word of it, for a node of the net
abbrev pub IsRefusal : (ℕ → Type 0) → Net → LiveError → Type 0
IsRefusal unstarted net Spent = Unit {0}
IsRefusal unstarted net NoThread = (u : ℕ) × (u < node_count net.topology) × unstarted u
IsRefusal unstarted net NoMemory = Unit {0}
IsRefusal unstarted net TooManyReaders = Unit {0}
