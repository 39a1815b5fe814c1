use Rattle.std.proofs.Common.{◌≡◌, length}
use Rattle.ir_bounds.specs.Around.{AreSlots}
use Rattle.ir_bounds.proofs.landmarks.slots_of.Given as goal

abbrev pub invariant-loop-i : goal.invariant-loop-i
invariant-loop-i l = record {
  every : length l.slots.items ≡ l.nodes;
  slots : AreSlots l.landmarks l.i l.slots.items;
}
