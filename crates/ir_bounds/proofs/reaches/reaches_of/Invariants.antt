use Rattle.std.proofs.Common.{◌≡◌, ℕ, ◌<◌, false, length}
use Rattle.ir_model.specs.Topology.{node_count}
use Rattle.ir_model.specs.Landmark.{is_far}
use Rattle.ir_tables.specs.Relaxation.{at}
use Rattle.ir_bounds.proofs.reaches.reaches_of.Given as goal

abbrev pub invariant-loop : goal.invariant-loop
invariant-loop l = record {
  every : length l.reaches.items ≡ node_count l.topology;
  near : (d : ℕ) → d < node_count l.topology → (away : ℕ) → is_far l.stretch away (at l.owners.radii.items d) ≡ false → away < at l.reaches.items d;
}
