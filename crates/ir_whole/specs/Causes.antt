-- The causes that a script and the rows of a trace have for the drops.
use Rattle.std.specs.Prelude.{◌≡◌, ℕ, ◌<◌, ◌==◌, ◌&&◌, ◌||◌, Bool, true, false, List, [], ◌∷◌, length, slice_get, Some}
use Rattle.std.specs.List.{list_any}
use Rattle.ir_model.specs.declared.Link.{Link}
use Rattle.ir_model.specs.Topology.{Topology}
use Rattle.ir_core.specs.declared.event.Event.TheVariants as event
use Rattle.ir_core.specs.declared.event.Step.{Step}
use Rattle.ir_core.specs.declared.event.Step.TheVariants as step
use Rattle.ir_core.specs.Sound.{last_of}
use Rattle.ir_trace.specs.declared.row.RowFate.{RowFate}
use Rattle.ir_trace.specs.declared.row.RowFate.TheVariants.{Delivered, Retired, Down, Full, Left}
use Rattle.ir_trace.specs.Row.{Segment, TraceRow}
use Rattle.ir_trace.specs.Checked.{last_part}

-- a line of the script takes down the link between these nodes, the smaller first
abbrev pub IsTakenDown : Topology → List Step → ℕ → ℕ → Type 0
IsTakenDown topology steps low high =
    (k l : ℕ) × (link : Link) × (slice_get steps k ≡ Some (step.Event (event.Down l)))
    × (slice_get topology.links l ≡ Some link) × (link.low ≡ low) × (link.high ≡ high)

-- a line of the script retires the epochs below one that is above this
abbrev pub IsRetired : List Step → ℕ → Type 0
IsRetired steps epoch = (k floor : ℕ) × (slice_get steps k ≡ Some (step.Event (event.Retire floor))) × (epoch < floor)

-- neighbours in the hops are these nodes, in this order
abbrev pub has_step : ℕ → ℕ → List ℕ → Bool
has_step from to [] = false
has_step from to (u ∷ []) = false
has_step from to (u ∷ v ∷ hops) = ((u == from) && (v == to)) || has_step from to (v ∷ hops)

abbrev pub have_step : ℕ → ℕ → List Segment → Bool
have_step from to parts = list_any (λ part. has_step from to part.hops) parts

-- A packet of this fate may have been sent on from its last hop to a node that is no hop of it. There it was found
-- retired, or the link by which it came was down, or it was left on its way.
abbrev pub may_go_on : ℕ → ℕ → RowFate → Bool
may_go_on from to Delivered = false
may_go_on from to Retired = true
may_go_on from to (Down low high) = ((low == from) && (high == to)) || ((low == to) && (high == from))
may_go_on from to (Full x y) = false
may_go_on from to Left = true

-- the row's packet may have been in the channel from one node to another
abbrev pub may_pass : ℕ → ℕ → TraceRow → Bool
may_pass from to row = have_step from to row.parts || (may_go_on from to row.fate && (last_of (last_part row.parts).hops == from))

-- a row has hops
abbrev pub HasHops : TraceRow → Type 0
HasHops row = (0 < length row.parts) × (0 < length (last_part row.parts).hops)

abbrev pub HaveHops : List TraceRow → Type 0
HaveHops rows = (i : ℕ) (row : TraceRow) → slice_get rows i ≡ Some row → HasHops row
