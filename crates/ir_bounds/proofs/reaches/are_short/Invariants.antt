use Rattle.std.proofs.Common.{◌-◌}
use Rattle.ir_bounds.proofs.reaches.are_short.Given as goal

abbrev pub decreases-loop-u : goal.decreases-loop-u
decreases-loop-u l = l.nodes - l.u
