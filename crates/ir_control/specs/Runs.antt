-- What nodes that turned on threads of their own came to, while commands were carried out.
use Rattle.std.specs.Prelude.{◌≡◌, ℕ, ◌<◌, List, ◌∷◌, length, slice_index_or, slice_get, Option, Some}
use Rattle.ir_core.specs.declared.command.Command.{Command}
use Rattle.ir_links.specs.Ends.{Word}
use Rattle.ir_epochs.specs.Looks.{Look}
use Rattle.ir_epochs.specs.declared.registry.Stamp.{Stamp}
use Rattle.ir_worker.specs.declared.node.Node.{Node}
use Rattle.ir_worker.specs.declared.serving.NoMemory.{NoMemory as Short}
use Rattle.ir_worker.specs.Same.{IsSameNode}
use Rattle.ir_worker.specs.Seen.{Parcel}
use Rattle.ir_worker.specs.Turns.{HasServed}
use Rattle.ir_control.specs.Desks.{Desk, desk_of}
use Rattle.ir_control.specs.declared.live.LiveError.{LiveError}
use Rattle.ir_control.specs.declared.live.LiveError.TheVariants as live
use Rattle.ir_control.specs.declared.working.LiveRun.{LiveRun}
use Rattle.ir_control.specs.Answers.{CommandAnswer, refusals_from}
use Rattle.ir_control.specs.Planned.{stamps_in}
use Rattle.ir_control.specs.Carried.{AreCarriedOut}
use Rattle.ir_control.specs.declared.controller.Controller.{Controller}

module _ (was_full was_empty : Word Parcel) (looked : Look Parcel) (may_end : ℕ → ℕ → Type 0) where
  -- what came back of a node is the same node, after turns
  abbrev pub ComesAs : Node → Node × Option Short → Type 0
  ComesAs n back = HasServed was_full was_empty looked may_end n back.0 back.1 × IsSameNode n back.0

  -- the same nodes, in the same order, each after turns
  pub record CameBack (before : List Node) (after : List (Node × Option Short)) : Type 0 where
    pub count : length after ≡ length before
    pub each : (k : ℕ) (d : Node) (e : Node × Option Short) → k < length before → ComesAs (slice_index_or before k d) (slice_index_or after k e)

-- The nodes came back, and each command had its answer. The stamps are that of the opening and those of the epochs that were
-- installed.
pub record IsNetRun (was_full was_empty : Word Parcel) (looked : Look Parcel) (may_end : ℕ → ℕ → Type 0) {B : Type 0} (opening : Stamp) (nodes : List Node) (desk : Desk B) (commands : List Command) (run : LiveRun B) : Type 0 where
  pub came_back : CameBack was_full was_empty looked may_end nodes run.back.items
  pub answers : List CommandAnswer
  pub carried_out : AreCarriedOut was_full commands desk answers (desk_of run.parts)
  pub refusals : run.refusals.items ≡ refusals_from 0 answers
  pub stamps : run.stamps.items ≡ opening ∷ stamps_in answers

-- the thread of one of these nodes was not started, or a growth was refused
abbrev pub IsStopped : (ℕ → Type 0) → List Node → LiveError → Type 0
IsStopped unstarted nodes live.Spent = ⊥
IsStopped unstarted nodes live.NoThread = (k : ℕ) × (n : Node) × (slice_get nodes k ≡ Some n) × unstarted n.index
IsStopped unstarted nodes live.NoMemory = Unit {0}
IsStopped unstarted nodes live.TooManyReaders = ⊥

-- a growth was refused
abbrev pub IsUnreported : LiveError → Type 0
IsUnreported live.Spent = ⊥
IsUnreported live.NoThread = ⊥
IsUnreported live.NoMemory = Unit {0}
IsUnreported live.TooManyReaders = ⊥
