use Rattle.std.proofs.Common.{◌≡◌, ◌<◌, ◌≤◌, take, length}
use Rattle.ir_bounds.specs.Bounds.{AreOwnersBy, held_lists}
use Rattle.ir_bounds.specs.Around.{AreAways}
use Rattle.ir_bounds.proofs.landmarks.Owners.of.Given as goal

abbrev pub invariant-loop-i : goal.invariant-loop-i
invariant-loop-i l = record {
  some : 0 < l.i;
  within : l.i ≤ length l.landmarks.items;
  owners : AreOwnersBy l.topology (take l.i l.landmarks.items) l.nodes.items l.radii.items;
  lists : length (held_lists l.away.items) ≡ l.i;
  away : AreAways l.topology l.landmarks.items l.i (held_lists l.away.items);
}
