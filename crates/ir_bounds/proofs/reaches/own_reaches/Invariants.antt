use Rattle.std.proofs.Common.{◌≡◌, ℕ, ◌<◌, false, length}
use Rattle.ir_model.specs.Landmark.{is_far}
use Rattle.ir_tables.specs.Relaxation.{at}
use Rattle.ir_bounds.proofs.reaches.own_reaches.Given as goal

abbrev pub invariant-loop-radius : goal.invariant-loop-radius
invariant-loop-radius l = record {
  every : length l.reaches.items ≡ l.radius-index;
  near : (d : ℕ) → d < l.radius-index → (away : ℕ) → is_far l.stretch away (at l.radii d) ≡ false → away < at l.reaches.items d;
}
