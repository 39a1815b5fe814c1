use Rattle.std.proofs.Common.{ℕ, ◌<◌, ◌^◌}
use Rattle.ir_prefix.proofs.width.Given as goal

abbrev pub invariant-loop-bits : goal.invariant-loop-bits
invariant-loop-bits l = (k : ℕ) → k < l.bits → 2 ^ k < l.n
