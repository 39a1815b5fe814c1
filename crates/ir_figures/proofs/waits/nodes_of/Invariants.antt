use Rattle.std.proofs.Common.{◌≡◌, ◌<◌, ℕ, vec_len, slice_index}
use Rattle.ir_figures.proofs.waits.nodes_of.Given as goal

abbrev pub invariant-loop-c : goal.invariant-loop-c
invariant-loop-c l = record {
  every : vec_len l.named ≡ l.c-index;
  each : (i : ℕ) → i < l.c-index → slice_index l.named.items i ≡ slice_index l.nodes (slice_index l.ring i);
}
