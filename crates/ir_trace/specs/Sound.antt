-- A trace with no finding.
use Rattle.std.specs.Prelude.{◌≡◌, ℕ, List, Some, slice_get}
use Rattle.ir_model.specs.Topology.{Topology}
use Rattle.ir_model.specs.Plan.{Plan}
use Rattle.ir_core.specs.declared.built.Install.{Install}
use Rattle.ir_trace.specs.Row.{TraceRow}
use Rattle.ir_trace.specs.Checked.{ArePlansOf, AreFine, ArrivesShortest, ArrivesWithin}
use Rattle.ir_trace.specs.SoundRows.{IsSoundRow}

-- There is no finding in the rows. So each part of each row is a sound record of one epoch, in the words of the packet
-- core. A packet that was delivered in a shortest-path epoch went over its distance there, in one of landmarks over no
-- more than the stretch allows.
pub record IsSoundTrace (topology : Topology) (installs : List Install) (rows : List TraceRow) : Type 0 where
  pub plans : List Plan
  pub of_installs : ArePlansOf topology installs plans
  pub fine : AreFine topology plans rows
  pub sound : (k : ℕ) (row : TraceRow) → slice_get rows k ≡ Some row → IsSoundRow topology plans row
  pub shortest : (k : ℕ) (row : TraceRow) → slice_get rows k ≡ Some row → ArrivesShortest plans row
  pub within : (k : ℕ) (row : TraceRow) → slice_get rows k ≡ Some row → ArrivesWithin plans row
