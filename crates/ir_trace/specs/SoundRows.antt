-- A row of which there is no finding, in the words of the packet core: each of its parts is a sound record of one epoch.
use Rattle.std.specs.Prelude.{◌≡◌, ℕ, ◌<◌, List, [], ◌∷◌, Some, length, slice_get}
use Rattle.ir_model.specs.Topology.{Topology}
use Rattle.ir_model.specs.Plan.{Plan}
use Rattle.ir_core.specs.declared.packet.Fate.{Fate}
use Rattle.ir_core.specs.declared.packet.Fate.TheVariants as fate
use Rattle.ir_core.specs.Record.{Record}
use Rattle.ir_core.specs.Sound.{IsSound}
use Rattle.ir_trace.specs.declared.row.RowFate.{RowFate}
use Rattle.ir_trace.specs.declared.row.RowFate.TheVariants.{Delivered, Retired, Down, Full, Left}
use Rattle.ir_trace.specs.Row.{Segment, TraceRow}
use Rattle.ir_trace.specs.Checked.{plan_at, last_part}
use Rattle.ir_trace.specs.Again.{fate_again}

abbrev pub first_of : List ℕ → ℕ
first_of [] = 0
first_of (u ∷ rest) = u

-- the record of a part, with a fate
abbrev pub segment_of : ℕ → ℕ → ℕ → List ℕ → Fate → Record
segment_of id dest epoch hops f =
    record { id = id; epoch = epoch; source = first_of hops; dest = dest; hops = hops; restamps = []; fate = f; room = length hops }

-- the ends of a link that was down come with the smaller first, as in each row that is read
abbrev pub IsOrdered : RowFate → Type 0
IsOrdered Delivered = Unit {0}
IsOrdered Retired = Unit {0}
IsOrdered (Down low high) = low < high
IsOrdered (Full from to) = Unit {0}
IsOrdered Left = Unit {0}

-- Each part is a sound record by the plan of its epoch; and the last is one with the fate of a record whose row this is.
pub record IsSoundRow (topology : Topology) (plans : List Plan) (row : TraceRow) : Type 0 where
  pub each : (i : ℕ) (part : Segment) → slice_get row.parts i ≡ Some part → IsSound (plan_at plans part.epoch) (segment_of row.id row.dest part.epoch part.hops fate.Retired)
  pub last : IsOrdered row.fate
      → (f : Fate) × (fate_again topology f ≡ row.fate) × IsSound (plan_at plans (last_part row.parts).epoch) (segment_of row.id row.dest (last_part row.parts).epoch (last_part row.parts).hops f)
