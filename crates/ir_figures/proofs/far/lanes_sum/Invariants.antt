use Rattle.std.proofs.Common.{◌+◌}
use Rattle.ir_figures.specs.Far.{IsFarSum}
use Rattle.ir_figures.proofs.far.lanes_sum.Given as goal

abbrev pub invariant-loop-lane : goal.invariant-loop-lane
invariant-loop-lane l = IsFarSum l.plan (l.first + l.lane) l.sum
