use Rattle.ir_bounds.specs.Around.{AreDistancesIn}
use Rattle.ir_bounds.proofs.landmarks.Owners.distances.Given as goal

abbrev pub invariant-loop-i : goal.invariant-loop-i
invariant-loop-i l = AreDistancesIn l.topology l.self.landmarks.items l.u l.i l.around.items
