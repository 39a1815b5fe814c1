-- The epochs that commands install, and what their plans are asked for.
use Rattle.std.specs.Prelude.{◌≡◌, ℕ, ◌<◌, Bool, true, false, List, [], ◌∷◌, ◌++◌, Some, None, Ok, Err, Contains, replicate, slice_set}
use Rattle.ir_model.specs.declared.Kind.{Kind}
use Rattle.ir_model.specs.Topology.{Topology, restrict}
use Rattle.ir_model.specs.Plan.{Plan}
use Rattle.ir_plan.specs.declared.tour.LabelOrder.{LabelOrder}
use Rattle.ir_core.specs.Marks.{both}
use Rattle.ir_plan.specs.Building.{Labelling, FromRoot}
use Rattle.ir_core.specs.Drafts.{kept_order, labelling_by}
use Rattle.ir_core.specs.Meaning.{IsMade}
use Rattle.ir_core.specs.declared.command.Command.{Command}
use Rattle.ir_core.specs.declared.command.Command.TheVariants.{Inject, Install, Renumber, Retire, Down, Up, Avoid, Heed, Drain}
use Rattle.ir_epochs.specs.declared.registry.Stamp.{Stamp}
use Rattle.ir_epochs.specs.Stamps.{knows}
use Rattle.ir_control.specs.Answers.{CommandAnswer, epoch_after}

-- an epoch, and its plan
pub record Planned : Type 0 where
  pub epoch : ℕ
  pub plan : Plan

-- the stamps of the epochs that were installed, in order
abbrev pub stamp_by : CommandAnswer → List Stamp
stamp_by (Ok None) = []
stamp_by (Ok (Some s)) = s ∷ []
stamp_by (Err why) = []

abbrev pub stamps_in : List CommandAnswer → List Stamp
stamps_in [] = []
stamps_in (answer ∷ answers) = stamp_by answer ++ stamps_in answers

-- the epochs of stamps, each with the plan that its stamp knows
abbrev pub planned : List Stamp → List Planned
planned [] = []
planned (s ∷ stamps) = record { epoch = s.epoch; plan = knows s } ∷ planned stamps

-- of such epochs, one has this plan
abbrev pub IsPlanIn : List Planned → ℕ → Plan → Type 0
IsPlanIn plans epoch plan = Contains plans (record { epoch = epoch; plan = plan })

-- for each link whether it is up, and whether installs heed it; and the nodes by label in the current epoch
pub record LinkMarks : Type 0 where
  pub up : List Bool
  pub heeded : List Bool
  pub order : List ℕ

-- at first all are up and heeded
abbrev pub all_marked : ℕ → List ℕ → LinkMarks
all_marked links order = record { up = replicate links true; heeded = replicate links true; order = order }

-- the links that installs use
abbrev pub used_in : LinkMarks → List Bool
used_in marks = both marks.up marks.heeded

-- with the order of the epoch that was installed
abbrev pub with_order : LinkMarks → CommandAnswer → LinkMarks
with_order marks (Ok None) = marks
with_order marks (Ok (Some s)) = record marks { order = (knows s).order }
with_order marks (Err why) = marks

-- these marks after a command, by its answer
abbrev pub marks_after : LinkMarks → Command → CommandAnswer → LinkMarks
marks_after marks (Down link) (Ok installed) = record marks { up = slice_set marks.up link false }
marks_after marks (Down link) (Err why) = marks
marks_after marks (Up link) (Ok installed) = record marks { up = slice_set marks.up link true }
marks_after marks (Up link) (Err why) = marks
marks_after marks (Avoid link) (Ok installed) = record marks { heeded = slice_set marks.heeded link false }
marks_after marks (Avoid link) (Err why) = marks
marks_after marks (Heed link) (Ok installed) = record marks { heeded = slice_set marks.heeded link true }
marks_after marks (Heed link) (Err why) = marks
marks_after marks (Inject source dest) answer = marks
marks_after marks (Install kind root) answer = with_order marks answer
marks_after marks (Renumber kind root) answer = with_order marks answer
marks_after marks (Retire floor) answer = marks
marks_after marks Drain answer = marks

-- An install that is accepted has a later epoch than all before it, and a plan of the command's kind over the links that
-- installs use, labelled by these.
abbrev pub IsPlannedAs : Labelling → Kind → Topology → LinkMarks → ℕ → CommandAnswer → Type 0
IsPlannedAs labels kind net marks last (Ok None) = ⊥
IsPlannedAs labels kind net marks last (Ok (Some s)) = (last < s.epoch) × IsMade labels kind (restrict (used_in marks) net) (Some (knows s))
IsPlannedAs labels kind net marks last (Err why) = Unit {0}

-- An install is labelled in the net's order from the root, or as the epoch before, where the net keeps that; to renumber is
-- to label in the net's order. No other command installs.
abbrev pub IsAsked : LabelOrder → Bool → Topology → LinkMarks → ℕ → Command → CommandAnswer → Type 0
IsAsked labels keeps net marks last (Install kind root) answer = IsPlannedAs (labelling_by labels root (kept_order keeps kind marks.order)) kind net marks last answer
IsAsked labels keeps net marks last (Renumber kind root) answer = IsPlannedAs (FromRoot labels root) kind net marks last answer
IsAsked labels keeps net marks last (Inject source dest) answer = stamp_by answer ≡ []
IsAsked labels keeps net marks last (Retire floor) answer = stamp_by answer ≡ []
IsAsked labels keeps net marks last (Down link) answer = stamp_by answer ≡ []
IsAsked labels keeps net marks last (Up link) answer = stamp_by answer ≡ []
IsAsked labels keeps net marks last (Avoid link) answer = stamp_by answer ≡ []
IsAsked labels keeps net marks last (Heed link) answer = stamp_by answer ≡ []
IsAsked labels keeps net marks last Drain answer = stamp_by answer ≡ []

-- So it is with each command and its answer, in order, where the links have these marks and this is the greatest epoch
-- before them.
abbrev pub AreAsked : LabelOrder → Bool → Topology → LinkMarks → ℕ → List Command → List CommandAnswer → Type 0
AreAsked labels keeps net marks last [] answers = Unit {0}
AreAsked labels keeps net marks last (c ∷ commands) [] = Unit {0}
AreAsked labels keeps net marks last (c ∷ commands) (answer ∷ answers) =
    IsAsked labels keeps net marks last c answer × AreAsked labels keeps net (marks_after marks c answer) (epoch_after last answer) commands answers
