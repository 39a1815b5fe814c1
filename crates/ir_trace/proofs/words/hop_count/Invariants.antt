use Rattle.std.proofs.Common.{◌≡◌, ◌+◌, drop, not}
use Rattle.std.specs.List.{prefix_len}
use Rattle.ir_trace.specs.Rows.{is_mark}
use Rattle.ir_trace.specs.Spelled.{texts}
use Rattle.ir_trace.proofs.words.hop_count.Given as goal

abbrev pub invariant-loop-i : goal.invariant-loop-i
invariant-loop-i l = l.i + prefix_len (λ w. not (is_mark w)) (texts (drop l.i l.words)) ≡ prefix_len (λ w. not (is_mark w)) (texts l.words)
