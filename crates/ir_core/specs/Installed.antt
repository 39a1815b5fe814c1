-- What the epochs of a list of steps are built from.
use Rattle.std.specs.Prelude.{◌≡◌, ◌≢◌, ℕ, Bool, false, Some, None, Result, Err, List, [], ◌∷◌, length, All}
use Rattle.std.specs.Global.{Vec}
use Rattle.ir_model.specs.declared.Kind.{Kind}
use Rattle.ir_model.specs.declared.Kind.TheVariants.{Tree}
use Rattle.ir_model.specs.Topology.{restrict}
use Rattle.ir_plan.specs.declared.tour.LabelOrder.TheVariants.{DepthFirst}
use Rattle.ir_model.specs.Plan.{Plan}
use Rattle.ir_plan.specs.Building.{Labelling}
use Rattle.ir_core.specs.declared.event.Event.{Event}
use Rattle.ir_core.specs.declared.event.Event.TheVariants as event
use Rattle.ir_core.specs.declared.event.Step.{Step}
use Rattle.ir_core.specs.declared.event.Step.TheVariants as step
use Rattle.ir_core.specs.declared.event.Reply.{Reply}
use Rattle.ir_core.specs.declared.event.Refused.{Refused}
use Rattle.ir_core.specs.declared.event.Refused.TheVariants.{NoMemory}
use Rattle.ir_core.specs.declared.opening.Opening.{Opening}
use Rattle.ir_core.specs.declared.built.Install.{Install}
use Rattle.ir_core.specs.Setting.{Setting, links_of}
use Rattle.ir_core.specs.Opened.{IsOpenedWith}
use Rattle.ir_core.specs.Board.{links_used}
use Rattle.ir_core.specs.Drafts.{items_of, kept_order, labelling_by}
use Rattle.ir_core.specs.Entry.{Entry}
use Rattle.ir_core.specs.History as history
use Rattle.ir_core.specs.Meaning.{IsMade, ComesTo, newest, newest_plan, sight_after, with_entry}
use Rattle.ir_core.specs.World.{World, sight_in}
use Rattle.ir_core.specs.Shows.{Shows}
use Rattle.ir_core.specs.Run.{IsPlayed}

-- an event after a history is accepted or refused by its meaning, not for want of memory
abbrev pub IsTaken : Setting → List Entry → Event → List Entry → Type 0
IsTaken setting log e later = (wanted : Result Entry Refused) × ComesTo setting (sight_after setting log) e wanted × (later ≡ with_entry log wanted)

-- The history after a step of which only the controller's are looked at: installs, retirements and marks of links.
abbrev pub IsControlled : Setting → List Entry → Step → List Entry → Type 0
IsControlled setting log (step.Event (event.Install kind root)) later = IsTaken setting log (event.Install kind root) later
IsControlled setting log (step.Event (event.Renumber kind root)) later = IsTaken setting log (event.Renumber kind root) later
IsControlled setting log (step.Event (event.Retire f)) later = IsTaken setting log (event.Retire f) later
IsControlled setting log (step.Event (event.Down l)) later = IsTaken setting log (event.Down l) later
IsControlled setting log (step.Event (event.Up l)) later = IsTaken setting log (event.Up l) later
IsControlled setting log (step.Event (event.Avoid l)) later = IsTaken setting log (event.Avoid l) later
IsControlled setting log (step.Event (event.Heed l)) later = IsTaken setting log (event.Heed l) later
IsControlled setting log (step.Event (event.Inject source dest)) later = later ≡ log
IsControlled setting log (step.Event (event.Learn e)) later = later ≡ log
IsControlled setting log (step.Event (event.Take u way)) later = later ≡ log
IsControlled setting log (step.Event (event.Read u k)) later = later ≡ log
IsControlled setting log (step.Event (event.Act u)) later = later ≡ log
IsControlled setting log step.Drain later = later ≡ log

abbrev pub IsControlRun : Setting → List Entry → List Step → List Entry → Type 0
IsControlRun setting log [] later = later ≡ log
IsControlRun setting log (s ∷ steps) later = (mid : List Entry) × IsControlled setting log s mid × IsControlRun setting mid steps later

-- the install of a plan that is labelled depth first
abbrev pub install_of : Kind → ℕ → Vec Bool → Install
install_of kind root up = record { labels = DepthFirst; kind = kind; root = root; up = up; kept = None }

-- by what the plan of an install is labelled
abbrev pub labelled_by : Install → Labelling
labelled_by i = labelling_by i.labels i.root (items_of i.kept)

-- an epoch's plan is of this kind, over the links that are marked, labelled by the order that it kept, or else in the
-- order of all; there is a mark for each link, and a tree keeps no order
abbrev pub IsBuiltFrom : Setting → Install → Plan → Type 0
IsBuiltFrom setting i plan =
    (length i.up.items ≡ links_of setting) × IsMade (labelled_by i) i.kind (restrict i.up.items setting.topology) (Some plan) × (i.labels ≡ setting.labels)
    × (i.kind ≡ Tree → items_of i.kept ≡ None)

abbrev pub AreBuiltFrom : Setting → List Install → List Plan → Type 0
AreBuiltFrom setting [] [] = Unit {0}
AreBuiltFrom setting [] (s ∷ plans) = ⊥
AreBuiltFrom setting (i ∷ installs) [] = ⊥
AreBuiltFrom setting (i ∷ installs) (s ∷ plans) = IsBuiltFrom setting i s × AreBuiltFrom setting installs plans

-- The installs of a list of steps, by epoch: each epoch after the controller's steps is built from its install.
pub record AreInstallsOf (opening : Opening) (steps : List Step) (installs : List Install) : Type 0 where
  pub setting : Setting
  pub opened : IsOpenedWith opening setting
  pub log : List Entry
  pub run : IsControlRun setting [] steps log
  pub built : AreBuiltFrom setting installs (history.plans setting log)

-- The installs of a list of steps, and beside them the plans of its epochs: each plan is built from its install.
pub record AreInstallsWithPlans (opening : Opening) (steps : List Step) (installs : List Install) (plans : List Plan) : Type 0 where
  pub installs_are : AreInstallsOf opening steps installs
  pub plans_are : plans ≡ history.plans installs_are.setting installs_are.log

-- no reply to a step is want of memory
abbrev pub NoneWantsMemory : List (Result Reply Refused) → Type 0
NoneWantsMemory replies = All (λ reply. reply ≢ Err NoMemory) replies

-- Where no step of a run wanted memory, its epochs were built from the installs of the same opening and steps.
abbrev pub AreEpochsOf : Opening → List Step → List (Result Reply Refused) → World → List Install → Type 0
AreEpochsOf opening steps replies world installs =
    IsOpenedWith opening world.opening → IsPlayed world.opening steps replies world → NoneWantsMemory replies
    → AreInstallsOf opening steps installs → AreBuiltFrom world.opening installs world.plans

-- one step more, of a world and the installs so far
abbrev pub ControlsOn : World → Step → List Install → World → List Install → Type 0
ControlsOn s x installs new more =
    (new.opening ≡ s.opening) × ((log : List Entry) → Shows log s → AreBuiltFrom s.opening installs (history.plans s.opening log) →
    (later : List Entry) × IsControlled s.opening log x later × Shows later new × AreBuiltFrom s.opening more (history.plans s.opening later))

-- what the plan of the next epoch is built from, where the order of the newest plan is kept or is not
pub record IsNextInstall (s : World) (keeps : Bool) (of : Kind) (from : ℕ) (i : Install) : Type 0 where
  pub labels : i.labels ≡ s.opening.labels
  pub kind : i.kind ≡ of
  pub root : i.root ≡ from
  pub count : length i.up.items ≡ links_of s.opening
  pub up : i.up.items ≡ links_used (newest (sight_in s)) (links_of s.opening)
  pub kept : items_of i.kept ≡ kept_order keeps of (newest_plan s.opening (sight_in s)).order

-- what the plan of an event is built from, if it installs one
abbrev pub IsInstallOf : World → Event → Install → Type 0
IsInstallOf s (event.Install kind root) i = IsNextInstall s s.opening.keeps kind root i
IsInstallOf s (event.Renumber kind root) i = IsNextInstall s false kind root i
IsInstallOf s _ i = ⊥

-- an event that changes a board and installs nothing
abbrev pub IsPlainChange : Event → Type 0
IsPlainChange (event.Retire f) = Unit {0}
IsPlainChange (event.Down l) = Unit {0}
IsPlainChange (event.Up l) = Unit {0}
IsPlainChange (event.Avoid l) = Unit {0}
IsPlainChange (event.Heed l) = Unit {0}
IsPlainChange (event.Install kind root) = ⊥
IsPlainChange (event.Renumber kind root) = ⊥
IsPlainChange (event.Inject source dest) = ⊥
IsPlainChange (event.Learn e) = ⊥
IsPlainChange (event.Take u way) = ⊥
IsPlainChange (event.Read u k) = ⊥
IsPlainChange (event.Act u) = ⊥
