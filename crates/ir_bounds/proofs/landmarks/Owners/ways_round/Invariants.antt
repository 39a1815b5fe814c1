use Rattle.std.proofs.Common.{◌≡◌, ◌<◌, ℕ, length}
use Rattle.std.specs.Prelude.{slice_index}
use Rattle.ir_bounds.specs.Near.{IsWayRound}
use Rattle.ir_bounds.proofs.landmarks.Owners.ways_round.Given as goal

abbrev pub invariant-loop-d : goal.invariant-loop-d
invariant-loop-d l = record {
  every : length l.row.items ≡ l.d;
  each : (d : ℕ) → d < l.d → IsWayRound l.topology l.self.landmarks.items l.u d (slice_index l.row.items d);
}
