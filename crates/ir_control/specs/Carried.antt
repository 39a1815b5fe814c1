-- What commands do with an injector and a controller of one net.
use Rattle.std.specs.Prelude.{◌≡◌, ℕ, Bool, ◌∷◌, [], true, false, List, Option, Some, None, Ok, Err, length}
use Rattle.ir_model.specs.declared.Kind.{Kind}
use Rattle.ir_core.specs.declared.board.Board.{Board}
use Rattle.ir_core.specs.declared.event.Refused.{Refused}
use Rattle.ir_core.specs.declared.command.Command.{Command}
use Rattle.ir_core.specs.declared.command.Command.TheVariants.{Inject, Install, Renumber, Retire, Down, Up, Avoid, Heed, Drain}
use Rattle.ir_core.specs.Refusals.{retire_refused, mark_refused, heed_refused}
use Rattle.ir_epochs.specs.declared.handles.Receipt.{Receipt}
use Rattle.ir_epochs.specs.declared.entry.Change.{Change}
use Rattle.ir_epochs.specs.declared.entry.Change.TheVariants as change
use Rattle.ir_epochs.specs.declared.registry.Stamp.{Stamp}
use Rattle.ir_epochs.specs.Stamps.{knows}
use Rattle.ir_epochs.specs.Entries.{board_of}
use Rattle.ir_epochs.specs.Handles.{published}
use Rattle.ir_links.specs.Ends.{Word}
use Rattle.ir_worker.specs.Account.{lines_out}
use Rattle.ir_worker.specs.Seen.{Parcel}
use Rattle.ir_control.specs.declared.injector.Injector.{Injector}
use Rattle.ir_control.specs.Accepted.{stamp_after_learning}
use Rattle.ir_control.specs.Refusals.{IsInjectAnswer}
use Rattle.ir_control.specs.Changes.{Installs, IsNoInstall, IsChangeAnswer}
use Rattle.ir_control.specs.Desks.{Desk}
use Rattle.ir_control.specs.Answers.{CommandAnswer, refusals_from}
use Rattle.ir_control.specs.Planned.{stamps_in}

-- the same injector, of the same inboxes and with the same limit
pub record IsSameInjector (before after : Injector) : Type 0 where
  pub opening : after.opening ≡ before.opening
  pub lines : lines_out after.outs.items ≡ lines_out before.outs.items
  pub most : after.max_packets ≡ before.max_packets

-- what comes of an inject, where the word records refused pushes
abbrev pub IsInjectedAs : Word Parcel → ℕ → ℕ → Injector → CommandAnswer → Injector → Type 0
IsInjectedAs was_full source dest before (Ok (Some s)) after = ⊥
IsInjectedAs was_full source dest before (Ok None) after = (id : ℕ) × IsInjectAnswer was_full source dest before (Ok id) after
IsInjectedAs was_full source dest before (Err why) after = IsInjectAnswer was_full source dest before (Err why) after

-- The injector has learnt of an epoch that was installed: it stamps with that epoch, if it is a later one. Nothing else
-- changed.
pub record HasLearnt (before after : Injector) (s : Stamp) : Type 0 where
  pub newest : after.newest ≡ stamp_after_learning before.newest (Some s)
  pub outs : after.outs ≡ before.outs
  pub accepted : after.accepted ≡ before.accepted
  pub opening : after.opening ≡ before.opening
  pub most : after.max_packets ≡ before.max_packets

module _ {B : Type 0} where
  -- An epoch was installed, whose stamp is this one, and the injector has learnt of it.
  pub record InstallsAndLearns (before after : Desk B) (keeps : Bool) (kind : Kind) (root : ℕ) (s : Stamp) : Type 0 where
    pub receipt : Receipt
    pub installs : Installs keeps kind root before.controller after.controller receipt
    pub stamp_is : installs.stamp ≡ s
    pub learnt : HasLearnt before.injector after.injector s

  -- what a controller answers to a command that changes the board and installs nothing
  abbrev pub IsChangedAs : Option Refused → Change → Desk B → CommandAnswer → Desk B → Type 0
  IsChangedAs refused c before (Ok (Some s)) after = ⊥
  IsChangedAs refused c before (Ok None) after =
      (after.injector ≡ before.injector) × ((t : Receipt) × IsChangeAnswer refused c before.controller after.controller (Ok t))
  IsChangedAs refused c before (Err why) after =
      (after.injector ≡ before.injector) × IsChangeAnswer refused c before.controller after.controller (Err why)

  -- how many links the net of a desk has, and its newest board
  abbrev pub desk_links : Desk B → ℕ
  desk_links d = length (knows d.controller.opening).topology.links

  abbrev pub desk_board : Desk B → Board
  desk_board d = board_of (published d.controller.writer)

  -- what comes of an install, where the current epoch's order is kept or is not
  abbrev pub IsInstalledAs : Bool → Kind → ℕ → Desk B → CommandAnswer → Desk B → Type 0
  IsInstalledAs keeps kind root before (Ok None) after = ⊥
  IsInstalledAs keeps kind root before (Ok (Some s)) after = InstallsAndLearns before after keeps kind root s
  IsInstalledAs keeps kind root before (Err why) after =
      (after.injector ≡ before.injector) × IsNoInstall root before.controller after.controller why

module _ (was_full : Word Parcel) {B : Type 0} where
  -- what comes of a command: the injector and the controller before it, the answer, and both after it
  abbrev pub IsCarriedOut : Command → Desk B → CommandAnswer → Desk B → Type 0
  IsCarriedOut (Inject source dest) before answer after =
      IsInjectedAs was_full source dest before.injector answer after.injector × IsSameInjector before.injector after.injector × (after.injector.newest ≡ before.injector.newest) × (after.controller ≡ before.controller)
  IsCarriedOut (Install kind root) before answer after = IsInstalledAs before.controller.keeps kind root before answer after
  IsCarriedOut (Renumber kind root) before answer after = IsInstalledAs false kind root before answer after
  IsCarriedOut (Retire floor) before answer after = IsChangedAs (retire_refused (desk_board before) floor) (change.Retire floor) before answer after
  IsCarriedOut (Down link) before answer after = IsChangedAs (mark_refused (desk_links before) (desk_board before) link false) (change.Down link) before answer after
  IsCarriedOut (Up link) before answer after = IsChangedAs (mark_refused (desk_links before) (desk_board before) link true) (change.Up link) before answer after
  IsCarriedOut (Avoid link) before answer after = IsChangedAs (heed_refused (desk_links before) (desk_board before) link false) (change.Avoid link) before answer after
  IsCarriedOut (Heed link) before answer after = IsChangedAs (heed_refused (desk_links before) (desk_board before) link true) (change.Heed link) before answer after
  IsCarriedOut Drain before answer after =
      (answer ≡ Ok None) × (after.injector ≡ before.injector) × (after.controller ≡ before.controller)

  -- an answer to each command, in order
  abbrev pub AreCarriedOut : List Command → Desk B → List CommandAnswer → Desk B → Type 0
  AreCarriedOut [] before [] after = after ≡ before
  AreCarriedOut [] before (answer ∷ answers) after = ⊥
  AreCarriedOut (c ∷ commands) before [] after = ⊥
  AreCarriedOut (c ∷ commands) before (answer ∷ answers) after = (next : Desk B) × IsCarriedOut c before answer next × AreCarriedOut commands next answers after

  -- The commands were carried out. The refused ones are reported by their places. The stamps are that of the opening and those
  -- of the epochs that were installed.
  abbrev pub AreTold : List Command → Desk B → Desk B → Stamp → List (ℕ × Refused) → List Stamp → Type 0
  AreTold commands before after opening refusals stamps = (answers : List CommandAnswer) × AreCarriedOut commands before answers after
      × (refusals ≡ refusals_from 0 answers) × (stamps ≡ opening ∷ stamps_in answers)
