use Rattle.std.proofs.Common.{◌≡◌, ◌≤◌, drop, length}
use Rattle.ir_whole.specs.Judged.{are_placed}
use Rattle.ir_whole.proofs.injecting.are_placed.Given as goal

abbrev pub invariant-loop-inject : goal.invariant-loop-inject
invariant-loop-inject l = record {
  within : l.next ≤ length l.table;
  same : are_placed (drop l.next l.table) (drop l.inject-index l.injects) ≡ are_placed l.table l.injects;
}
