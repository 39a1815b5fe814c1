use Rattle.std.proofs.Common.{◌≡◌, ◌≤◌, ◌*◌, take}
use Rattle.ir_model.specs.Walk.{walk_weight}
use Rattle.ir_trace.proofs.judging.walk_weight.Given as goal

abbrev pub invariant-loop-i : goal.invariant-loop-i
invariant-loop-i l = record {
  weight : l.sum ≡ walk_weight l.topology (take l.i l.hops);
  light : l.sum ≤ 65535 * l.i;
}
