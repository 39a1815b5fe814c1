-- What rows are asked for beside the script of their run, so that a run can have had them.
use Rattle.std.specs.Prelude.{◌≡◌, ℕ, ◌+◌, ◌<◌, ◌≤◌, List, [], ◌∷◌, ◌++◌, count_by, take, slice_get, Some}
use Rattle.ir_model.specs.Topology.{Topology}
use Rattle.ir_core.specs.declared.event.Step.{Step}
use Rattle.ir_trace.specs.declared.row.RowFate.TheVariants.{Retired, Down, Full}
use Rattle.ir_trace.specs.Row.{TraceRow}
use Rattle.ir_trace.specs.Checked.{last_part, HasNewId}
use Rattle.ir_whole.specs.declared.finding.WholeKind.{WholeKind}
use Rattle.ir_whole.specs.declared.finding.WholeKind.TheVariants.{NeverInjected, NotYetInstalled, NeverDown, NeverRetired, NeverFull, NoMemory}
use Rattle.ir_whole.specs.Injects.{inject_lines, HasEnds, IsStampedAt, AreAccepted}
use Rattle.ir_whole.specs.Causes.{IsTakenDown, IsRetired, may_pass}

-- What a run was given: its network, the steps of its script, the capacity of its channels, and the most packets.
pub record GivenRun : Type 0 where
  pub topology : Topology
  pub steps : List Step
  pub capacity : ℕ
  pub packets : ℕ

abbrev pub run_of : Topology → List Step → ℕ → ℕ → GivenRun
run_of topology steps capacity packets = record { topology = topology; steps = steps; capacity = capacity; packets = packets }

-- no two rows have one id
abbrev pub HaveOwnIds : List TraceRow → Type 0
HaveOwnIds rows = (k : ℕ) (row : TraceRow) → slice_get rows k ≡ Some row → HasNewId (take k rows) row

-- ---- what a row is asked for, after the rows before it

-- its packet was injected: it is that of an accepted inject line, by number, beside those of the rows before
abbrev pub WasInjected : GivenRun → List TraceRow → TraceRow → Type 0
WasInjected run earlier row = AreAccepted HasEnds run.packets (inject_lines run.steps) (earlier ++ row ∷ [])

-- and its first epoch was installed above that line, as were those of the rows before
abbrev pub WasInstalled : GivenRun → List TraceRow → TraceRow → Type 0
WasInstalled run earlier row = AreAccepted IsStampedAt run.packets (inject_lines run.steps) (earlier ++ row ∷ [])

-- if it was dropped at a link that was down, a line takes that link down
abbrev pub HasDownCause : GivenRun → TraceRow → Type 0
HasDownCause run row = (low high : ℕ) → row.fate ≡ Down low high → IsTakenDown run.topology run.steps low high

-- if it was dropped as retired, a line retires its last epoch
abbrev pub HasRetireCause : GivenRun → TraceRow → Type 0
HasRetireCause run row = row.fate ≡ Retired → IsRetired run.steps (last_part row.parts).epoch

-- if it was dropped at a full channel, as many rows of the trace may have been in that channel as it holds packets
abbrev pub HasFullCause : GivenRun → List TraceRow → TraceRow → Type 0
HasFullCause run rows row = (from to : ℕ) → row.fate ≡ Full from to → run.capacity ≤ count_by (may_pass from to) rows

-- A row that a run can have had, by these.
pub record IsAccountedFor (run : GivenRun) (rows earlier : List TraceRow) (row : TraceRow) : Type 0 where
  pub injected : WasInjected run earlier row
  pub installed : WasInstalled run earlier row
  pub down : HasDownCause run row
  pub retired : HasRetireCause run row
  pub full : HasFullCause run rows row

-- each row is one
abbrev pub AreWhole : GivenRun → List TraceRow → Type 0
AreWhole run rows = (k : ℕ) (row : TraceRow) → slice_get rows k ≡ Some row → IsAccountedFor run rows (take k rows) row

-- What is found of a row: the first of these that doesn't hold.
abbrev pub IsWholeFinding : GivenRun → List TraceRow → List TraceRow → TraceRow → WholeKind → Type 0
IsWholeFinding run rows earlier row NeverInjected = WasInjected run earlier row → ⊥
IsWholeFinding run rows earlier row NotYetInstalled = WasInjected run earlier row × (WasInstalled run earlier row → ⊥)
IsWholeFinding run rows earlier row NeverDown = WasInjected run earlier row × WasInstalled run earlier row × (HasDownCause run row → ⊥)
IsWholeFinding run rows earlier row NeverRetired =
    WasInjected run earlier row × WasInstalled run earlier row × HasDownCause run row × (HasRetireCause run row → ⊥)
IsWholeFinding run rows earlier row NeverFull =
    WasInjected run earlier row × WasInstalled run earlier row × HasDownCause run row × HasRetireCause run row × (HasFullCause run rows row → ⊥)
IsWholeFinding run rows earlier row NoMemory = ⊥

-- The first finding: a run can have had each row before it. Its line is counted from 1, and the first row is in line 2.
pub record IsFirstWholeFinding (run : GivenRun) (rows : List TraceRow) (line : ℕ) (kind : WholeKind) : Type 0 where
  pub place : ℕ
  pub row : TraceRow
  pub row_is : slice_get rows place ≡ Some row
  pub before : (k : ℕ) (other : TraceRow) → k < place → slice_get rows k ≡ Some other → IsAccountedFor run rows (take k rows) other
  pub number : line ≡ place + 2
  pub finding : IsWholeFinding run rows (take place rows) row kind

-- What is found in rows. Want of memory has line 0.
abbrev pub FindsWhole : GivenRun → List TraceRow → ℕ → WholeKind → Type 0
FindsWhole run rows line NoMemory = line ≡ 0
FindsWhole run rows line kind = IsFirstWholeFinding run rows line kind
