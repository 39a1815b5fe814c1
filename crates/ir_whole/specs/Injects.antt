-- The inject lines of a script, and which of them rows can be the packets of.
use Rattle.std.specs.Prelude.{◌≡◌, ℕ, ◌+◌, ◌≤◌, ◌⊎◌, List, [], ◌∷◌, ◌++◌, length, slice_get, slice_index_or, Option, Some, None, option_to_list}
use Rattle.ir_core.specs.declared.event.Event.TheVariants as event
use Rattle.ir_core.specs.declared.event.Step.{Step}
use Rattle.ir_core.specs.declared.event.Step.TheVariants as step
use Rattle.ir_trace.specs.Row.{TraceRow}
use Rattle.ir_trace.specs.Checked.{no_part}
use Rattle.ir_whole.specs.declared.injecting.Inject.{Inject}

-- the inject line that a step is, below lines that made so many epochs
abbrev pub inject_in : ℕ → Step → Option Inject
inject_in epochs (step.Event (event.Inject source dest)) = Some (record { source = source; dest = dest; epochs = epochs })
inject_in epochs _ = None

-- how many epochs there are below a step, where each install makes one
abbrev pub epochs_after : ℕ → Step → ℕ
epochs_after epochs (step.Event (event.Install kind root)) = epochs + 1
epochs_after epochs (step.Event (event.Renumber kind root)) = epochs + 1
epochs_after epochs _ = epochs

-- the inject lines of steps, in order, below lines that made so many epochs
abbrev pub injects_from : ℕ → List Step → List Inject
injects_from epochs [] = []
injects_from epochs (s ∷ steps) = option_to_list (inject_in epochs s) ++ injects_from (epochs_after epochs s) steps

-- the inject lines of a script; the opening makes epoch 1
abbrev pub inject_lines : List Step → List Inject
inject_lines steps = injects_from 1 steps

-- these are some of those, in their order
abbrev pub AreSomeOf : List Inject → List Inject → Type 0
AreSomeOf [] all = Unit {0}
AreSomeOf (x ∷ some) [] = ⊥
AreSomeOf (x ∷ some) (y ∷ all) = ((x ≡ y) × AreSomeOf some all) ⊎ AreSomeOf (x ∷ some) all

-- the epoch that the row's packet was stamped with at its inject
abbrev pub first_epoch : TraceRow → ℕ
first_epoch row = (slice_index_or row.parts 0 no_part).epoch

-- the row's packet has the ends of an inject line
abbrev pub HasEnds : TraceRow → Inject → Type 0
HasEnds row inject = (row.source ≡ inject.source) × (row.dest ≡ inject.dest)

-- and its first epoch can have been installed above that line
abbrev pub IsStampedAt : TraceRow → Inject → Type 0
IsStampedAt row inject = (row.source ≡ inject.source) × (row.dest ≡ inject.dest) × (first_epoch row ≤ inject.epochs)

-- Some of the inject lines were accepted, at most so many, and the row with id i is as the packet of the accepted line
-- number i.
pub record AreAccepted (is_as : TraceRow → Inject → Type 0) (packets : ℕ) (all : List Inject) (rows : List TraceRow) : Type 0 where
  pub accepted : List Inject
  pub some : AreSomeOf accepted all
  pub few : length accepted ≤ packets
  pub each : (k : ℕ) (row : TraceRow) → slice_get rows k ≡ Some row → (inject : Inject) × (slice_get accepted row.id ≡ Some inject) × is_as row inject
