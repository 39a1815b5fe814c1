-- For which links the packets of a live run are dropped.
use Rattle.std.specs.Prelude.{◌≡◌, ℕ, Bool, true, false, List, [], ◌∷◌, Some, None, Ok, Err, length, slice_get, slice_index_or, if◌then◌else◌, ◌==◌}
use Rattle.ir_core.specs.declared.command.Command.{Command}
use Rattle.ir_core.specs.declared.packet.Fate.TheVariants.{Down}
use Rattle.ir_core.specs.Record.{Record, stamp_of}
use Rattle.ir_control.specs.declared.net.Net.{Net}
use Rattle.ir_control.specs.Nets.{first_plan}
use Rattle.ir_control.specs.Answers.{CommandAnswer}
use Rattle.ir_control.specs.Planned.{LinkMarks, all_marked, used_in, marks_after}

-- the command installed this epoch
abbrev pub installs_epoch : ℕ → CommandAnswer → Bool
installs_epoch epoch (Ok None) = false
installs_epoch epoch (Ok (Some s)) = s.epoch == epoch
installs_epoch epoch (Err why) = false

-- the marks of the links when the plan of an epoch was made: by a command, or else by the opening
abbrev pub marks_at : ℕ → LinkMarks → LinkMarks → List Command → List CommandAnswer → LinkMarks
marks_at epoch first marks [] answers = first
marks_at epoch first marks (c ∷ commands) [] = first
marks_at epoch first marks (c ∷ commands) (answer ∷ answers) =
    if installs_epoch epoch answer then marks else marks_at epoch first (marks_after marks c answer) commands answers

-- A packet is dropped for a link that is down only by a plan that was made while the link was up and heeded: that of
-- its present epoch.
abbrev pub AreLiveDropsForUsedLinks : Net → List Command → List CommandAnswer → List Record → Type 0
AreLiveDropsForUsedLinks net commands answers records =
    let first = all_marked (length net.topology.links) (first_plan net).order in
    (k l : ℕ) (r : Record) → slice_get records k ≡ Some r → r.fate ≡ Down l
    → slice_index_or (used_in (marks_at (stamp_of r) first first commands answers)) l false ≡ true
