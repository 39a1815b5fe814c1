use Rattle.std.proofs.Common.{◌≡◌, ◌<◌, ℕ, length}
use Rattle.std.specs.Prelude.{slice_index}
use Rattle.ir_bounds.specs.Near.{IsWayRound}
use Rattle.ir_bounds.specs.Words.{IsLedWord}
use Rattle.ir_bounds.proofs.words.round_words.Given as goal

abbrev pub invariant-loop-label : goal.invariant-loop-label
invariant-loop-label l = record {
  every : length l.words.items ≡ l.label;
  each : (a : ℕ) → a < l.label → IsLedWord l.topology (IsWayRound l.topology l.held.owners.landmarks.items) (IsWayRound l.topology l.held.owners.landmarks.items) l.u (slice_index l.numbering.order a) (slice_index l.words.items a);
}
