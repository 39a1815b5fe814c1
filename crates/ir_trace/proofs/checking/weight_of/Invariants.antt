use Rattle.std.proofs.Common.{◌≡◌, ◌≤◌, ◌*◌, take}
use Rattle.ir_trace.specs.Inspect.{segments_weight}
use Rattle.ir_trace.proofs.checking.weight_of.Given as goal

abbrev pub invariant-loop-segment : goal.invariant-loop-segment
invariant-loop-segment l = record {
  weight : l.sum ≡ segments_weight l.topology (take l.segment-index l.segments);
  light : l.sum ≤ 2147450880 * l.segment-index;
}
