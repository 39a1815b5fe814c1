use Rattle.std.proofs.Common.{◌≡◌, ◌<◌, ◌≤◌, ℕ, length}
use Rattle.std.specs.Prelude.{slice_index}
use Rattle.ir_model.proofs.Best.{IsBetter}
use Rattle.ir_compile.proofs.runs.keep_round.Given as goal

abbrev pub invariant-loop-a : goal.invariant-loop-a
invariant-loop-a l = record {
  counts_len : length l.counts ≡ l.n;
  ports_len : length l.ports ≡ l.n;
  done : (d : ℕ) → d < l.a → IsBetter l.n l.port (slice_index l.initial.counts d) (slice_index l.initial.ports d) (slice_index l.counts d) (slice_index l.ports d);
  counts_left : (d : ℕ) → l.a ≤ d → slice_index l.counts d ≡ slice_index l.initial.counts d;
  ports_left : (d : ℕ) → l.a ≤ d → slice_index l.ports d ≡ slice_index l.initial.ports d;
}
