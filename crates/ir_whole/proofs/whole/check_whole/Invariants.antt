use Rattle.std.proofs.Common.{◌≡◌, ◌<◌, ℕ, Some, take, slice_get}
use Rattle.ir_trace.specs.Row.{TraceRow}
use Rattle.ir_whole.specs.Judged.{ends_wanted, stamp_wanted}
use Rattle.ir_whole.specs.Whole.{run_of, IsAccountedFor}
use Rattle.ir_whole.proofs.Numbered.{IsTable}
use Rattle.ir_whole.proofs.whole.check_whole.Given as goal

abbrev pub invariant-loop-place : goal.invariant-loop-place
invariant-loop-place l = record {
  ends : IsTable ends_wanted l.packets (take l.place l.trace) l.used l.ends.items;
  stamps : IsTable stamp_wanted l.packets (take l.place l.trace) l.used l.stamps.items;
  before : (k : ℕ) (other : TraceRow) → k < l.place → slice_get l.trace k ≡ Some other → IsAccountedFor (run_of l.topology l.steps l.capacity l.packets) l.trace (take k l.trace) other;
}
