-- What a controller refuses, and what it changes.
use Rattle.std.specs.Prelude.{◌≡◌, ◌⊎◌, ℕ, ◌+◌, Bool, List, ◌∷◌, ◌++◌, [], length, Option, Some, None, Result, MatchResult}
use Rattle.std.specs.Arc.{arc_value}
use Rattle.ir_model.specs.declared.Kind.{Kind}
use Rattle.ir_model.specs.Topology.{Topology, node_count, restrict}
use Rattle.ir_model.specs.Plan.{Plan}
use Rattle.ir_model.specs.Walk.{IsDisconnected}
use Rattle.ir_core.specs.declared.event.Refused.{Refused}
use Rattle.ir_core.specs.declared.event.Refused.TheVariants.{Disconnected, NoMemory, Used}
use Rattle.ir_core.specs.declared.board.Board.{Board}
use Rattle.ir_core.specs.Refusals.{install_refused, retire_refused, mark_refused, heed_refused}
use Rattle.ir_core.specs.Board.{links_used}
use Rattle.ir_plan.specs.Building.{Labelling}
use Rattle.ir_core.specs.Drafts.{kept_order, labelling_by}
use Rattle.ir_core.specs.Meaning.{IsMade}
use Rattle.ir_epochs.specs.declared.registry.Stamp.{Stamp}
use Rattle.ir_epochs.specs.declared.handles.Receipt.{Receipt}
use Rattle.ir_epochs.specs.declared.entry.Change.{Change}
use Rattle.ir_epochs.specs.declared.entry.Change.TheVariants.{Install}
use Rattle.ir_epochs.specs.declared.entry.Entry.{Entry}
use Rattle.ir_epochs.specs.declared.entry.Entry.TheVariants.{Changed}
use Rattle.ir_epochs.specs.Stamps.{IsOf, knows}
use Rattle.ir_epochs.specs.Entries.{board_of, installed_stamp}
use Rattle.ir_epochs.specs.Handles.{published, writer_board, reader_board, told, receipt_board}
use Rattle.ir_worker.specs.declared.node.Node.{Node}
use Rattle.ir_control.specs.declared.controller.Controller.{Controller}

-- the nodes by label in the plan that a stamp knows
abbrev pub order_of : Option Stamp → List ℕ
order_of None = []
order_of (Some s) = (knows s).order

abbrev pub IsRefusedBy : Refused → Option Refused → Type 0
IsRefusedBy error (Some e) = error ≡ e
IsRefusedBy error None = error ≡ NoMemory

module _ {R : Type 0} where
  -- all that a controller published, and the board that it makes
  abbrev pub published_by : Controller R → List Entry
  published_by c = published c.writer

  abbrev pub newest_board : Controller R → Board
  newest_board c = board_of (published c.writer)

  -- a node reads its board
  abbrev pub IsReadBy : Controller R → Node → Type 0
  IsReadBy c n = reader_board n.reader ≡ writer_board c.writer

  -- why it does not retire the epochs below a floor, why it does not mark a link, and why its installs do not heed or
  -- avoid one
  abbrev pub retiring_refused : Controller R → ℕ → Option Refused
  retiring_refused c floor = retire_refused (newest_board c) floor

  abbrev pub marking_refused : Controller R → ℕ → Bool → Option Refused
  marking_refused c link up = mark_refused (length (knows c.opening).topology.links) (newest_board c) link up

  abbrev pub heeding_refused : Controller R → ℕ → Bool → Option Refused
  heeding_refused c link heed = heed_refused (length (knows c.opening).topology.links) (newest_board c) link heed

  -- it is the same controller, which has published this one change more; the receipt says so
  pub record Publishes (before after : Controller R) (c : Change) (t : Receipt) : Type 0 where
    pub published_is : published after.writer ≡ published before.writer ++ Changed c ∷ []
    pub told_is : told t ≡ published after.writer
    pub receipt : receipt_board t ≡ writer_board before.writer
    pub board : writer_board after.writer ≡ writer_board before.writer
    pub opening : after.opening ≡ before.opening
    pub registry : after.registry ≡ before.registry
    pub labels : after.labels ≡ before.labels
    pub keeps : after.keeps ≡ before.keeps

  -- nothing was published
  pub record PublishesNothing (before after : Controller R) : Type 0 where
    pub published_is : published after.writer ≡ published before.writer
    pub board : writer_board after.writer ≡ writer_board before.writer
    pub opening : after.opening ≡ before.opening
    pub registry : after.registry ≡ before.registry
    pub labels : after.labels ≡ before.labels
    pub keeps : after.keeps ≡ before.keeps

  -- the change was published and not refused; or the first refusal, or else want of memory, and nothing was published
  abbrev pub IsChangeAnswer : Option Refused → Change → Controller R → Controller R → Result Receipt Refused → Type 0
  IsChangeAnswer refused c before after answer = (after.used ≡ before.used) × MatchResult answer
      (λ t. (refused ≡ None) × Publishes before after c t)
      (λ e. IsRefusedBy e refused × PublishesNothing before after)

  -- the network over the links that are up and heeded in the controller's board
  abbrev pub topology_up : Controller R → Topology
  topology_up c = restrict (links_used (board_of (published c.writer)) (length (knows c.opening).topology.links)) (knows c.opening).topology

  abbrev pub install_refusal : Controller R → ℕ → Option Refused
  install_refusal c root = install_refused (node_count (knows c.opening).topology) c.used (board_of (published c.writer)) root

  abbrev pub IsInstallRefusedBy : Controller R → Refused → Option Refused → Type 0
  IsInstallRefusedBy c error (Some e) = error ≡ e
  IsInstallRefusedBy c error None = ((error ≡ Disconnected) × IsDisconnected (topology_up c)) ⊎ ((error ≡ NoMemory) ⊎ (error ≡ Used))

  -- the nodes by label in the current epoch
  abbrev pub current_order : Controller R → List ℕ
  current_order c = order_of (installed_stamp (published c.writer))

  -- by what the next plan is labelled, where the current epoch's order is kept or is not
  abbrev pub labelling_next : Controller R → Bool → Kind → ℕ → Labelling
  labelling_next c keeps kind root = labelling_by c.labels root (kept_order keeps kind (current_order c))

  -- a plan of this kind over the links that are up and heeded, labelled so; or why there is none
  abbrev pub IsPlanAnswer : Bool → Kind → ℕ → Controller R → Result Plan Refused → Type 0
  IsPlanAnswer keeps kind root c answer = MatchResult answer
      (λ plan. IsMade (labelling_next c keeps kind root) kind (topology_up c) (Some plan))
      (λ e. ((e ≡ Disconnected) × IsDisconnected (topology_up c)) ⊎ (e ≡ NoMemory))

  -- The stamp of the next cell, which knows a plan of this kind over the links that were up and heeded, labelled as the
  -- current epoch where its order is kept, else in the controller's order from the root, was installed.
  pub record Installs (keeps : Bool) (kind : Kind) (root : ℕ) (before after : Controller R) (t : Receipt) : Type 0 where
    pub allowed : install_refusal before root ≡ None
    pub stamp : Stamp
    pub epoch : stamp.epoch ≡ before.used + 1
    pub registered : IsOf (arc_value before.registry) stamp
    pub plan : IsMade (labelling_next before keeps kind root) kind (topology_up before) (Some (knows stamp))
    pub publishes : Publishes before after (Install stamp) t
    pub used : after.used ≡ before.used + 1

  -- no plan was published; a cell is used up where the answer is `Used`, and may be where it is want of memory
  pub record IsNoInstall (root : ℕ) (before after : Controller R) (e : Refused) : Type 0 where
    pub refused : IsInstallRefusedBy before e (install_refusal before root)
    pub nothing : PublishesNothing before after
    pub used : (after.used ≡ before.used) ⊎ ((after.used ≡ before.used + 1) × ((e ≡ NoMemory) ⊎ (e ≡ Used)))
    pub cell : e ≡ Used → after.used ≡ before.used + 1

  abbrev pub IsInstallAnswer : Bool → Kind → ℕ → Controller R → Controller R → Result Receipt Refused → Type 0
  IsInstallAnswer keeps kind root before after answer = MatchResult answer (λ t. Installs keeps kind root before after t) (λ e. IsNoInstall root before after e)
