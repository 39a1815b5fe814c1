-- What the check computes of a row.
use Rattle.std.specs.Prelude.{ℕ, ◌==◌, ◌&&◌, not, Bool, true, false, List, [], ◌∷◌, count_by, nat_le, nat_lt, slice_get, Option, Some, None, if◌then◌else◌}
use Rattle.std.specs.Option.{option_map_or}
use Rattle.std.specs.List.{list_any}
use Rattle.ir_model.specs.Topology.{Topology}
use Rattle.ir_core.specs.declared.event.Event.TheVariants as event
use Rattle.ir_core.specs.declared.event.Step.{Step}
use Rattle.ir_core.specs.declared.event.Step.TheVariants as step
use Rattle.ir_trace.specs.declared.row.RowFate.{RowFate}
use Rattle.ir_trace.specs.declared.row.RowFate.TheVariants.{Delivered, Retired, Down, Full, Left}
use Rattle.ir_trace.specs.Row.{TraceRow}
use Rattle.ir_trace.specs.Checked.{last_part}
use Rattle.ir_whole.specs.declared.finding.WholeKind.{WholeKind}
use Rattle.ir_whole.specs.declared.finding.WholeKind.TheVariants.{NeverInjected, NotYetInstalled, NeverDown, NeverRetired, NeverFull}
use Rattle.ir_whole.specs.declared.injecting.Inject.{Inject}
use Rattle.ir_whole.specs.declared.injecting.Wanted.{Wanted}
use Rattle.ir_whole.specs.Injects.{first_epoch}
use Rattle.ir_whole.specs.Causes.{may_pass}

-- ---- injects

-- what a row wants of its packet's inject, without its epoch and with it
abbrev pub ends_wanted : TraceRow → Wanted
ends_wanted row = record { source = row.source; dest = row.dest; epoch = 0 }

abbrev pub stamp_wanted : TraceRow → Wanted
stamp_wanted row = record { source = row.source; dest = row.dest; epoch = first_epoch row }

abbrev pub fits : Wanted → Inject → Bool
fits wanted inject = (wanted.source == inject.source) && ((wanted.dest == inject.dest) && nat_le wanted.epoch inject.epochs)

-- where nothing is wanted any inject is as it is
abbrev pub fits_any : Option Wanted → Inject → Bool
fits_any None inject = true
fits_any (Some wanted) inject = fits wanted inject

-- for each of what is wanted, in order, the next inject that is so
abbrev pub are_placed : List (Option Wanted) → List Inject → Bool
are_placed [] all = true
are_placed (wanted ∷ table) [] = false
are_placed (wanted ∷ table) (inject ∷ all) = if fits_any wanted inject then are_placed table all else are_placed (wanted ∷ table) all

-- ---- causes

abbrev pub is_between : Topology → ℕ → ℕ → ℕ → Bool
is_between topology l low high = option_map_or (λ link. (link.low == low) && (link.high == high)) (slice_get topology.links l) false

abbrev pub takes_down : Topology → ℕ → ℕ → Step → Bool
takes_down topology low high (step.Event (event.Down l)) = is_between topology l low high
takes_down topology low high _ = false

abbrev pub retires_above : ℕ → Step → Bool
retires_above epoch (step.Event (event.Retire floor)) = nat_lt epoch floor
retires_above epoch _ = false

abbrev pub end_epoch : TraceRow → ℕ
end_epoch row = (last_part row.parts).epoch

abbrev pub none_if : Bool → WholeKind → Option WholeKind
none_if has_cause kind = if has_cause then None else Some kind

abbrev pub cause_by : Topology → List Step → ℕ → List TraceRow → ℕ → RowFate → Option WholeKind
cause_by topology steps capacity rows epoch Delivered = None
cause_by topology steps capacity rows epoch Retired = none_if (list_any (retires_above epoch) steps) NeverRetired
cause_by topology steps capacity rows epoch (Down low high) = none_if (list_any (takes_down topology low high) steps) NeverDown
cause_by topology steps capacity rows epoch (Full from to) = none_if (nat_le capacity (count_by (may_pass from to) rows)) NeverFull
cause_by topology steps capacity rows epoch Left = None

abbrev pub cause_of : Topology → List Step → ℕ → List TraceRow → TraceRow → Option WholeKind
cause_of topology steps capacity rows row = cause_by topology steps capacity rows (end_epoch row) row.fate

-- the first of what is found of a row
abbrev pub first_of_three : Bool → Bool → Option WholeKind → Option WholeKind
first_of_three injected installed cause =
    if not injected then Some NeverInjected else if not installed then Some NotYetInstalled else cause
