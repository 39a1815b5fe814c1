use Rattle.std.proofs.Common.{◌<◌, length}
use Rattle.ir_tables.proofs.keyed.least_and_half.Given as goal

abbrev pub invariant-loop-at : goal.invariant-loop-at
invariant-loop-at l = l.least < length l.far
