use Rattle.std.proofs.Common.{◌*◌}
use Rattle.ir_lanes.specs.Marks.{AreTiedTo}
use Rattle.ir_lanes.proofs.marks.PortMarks.tied.Given as goal

abbrev pub invariant-loop-batch : goal.invariant-loop-batch
invariant-loop-batch l = AreTiedTo l.topology l.order l.node (l.batch * 16) l.tied.items
