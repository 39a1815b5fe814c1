use Rattle.std.proofs.Common.{◌-◌, length}
use Rattle.ir_diff.specs.Cuts.{AreLowerStarts}
use Rattle.ir_diff.proofs.changes.place_from.Given as goal

abbrev pub invariant-loop-end : goal.invariant-loop-end
invariant-loop-end l = AreLowerStarts l.row l.start l.end

abbrev pub decreases-loop-end : goal.decreases-loop-end
decreases-loop-end l = length l.row - l.end
