use Rattle.std.proofs.Common.{◌*◌}
use Rattle.ir_lanes.proofs.Batches.{IsMarkedTo}
use Rattle.ir_lanes.proofs.marks.PortMarks.row.Given as goal

abbrev pub invariant-loop-batch : goal.invariant-loop-batch
invariant-loop-batch l = IsMarkedTo l.topology l.order l.node l.port (l.batch * 16) l.row.items l.marked.items
