use Rattle.std.proofs.Common.{length}
use Rattle.ir_trace.proofs.ReadTexts.{IsReadTo}
use Rattle.ir_trace.proofs.reading.read_rows.Given as goal

abbrev pub invariant-loop-rest : goal.invariant-loop-rest
invariant-loop-rest l = IsReadTo l.version l.graph l.text l.rows.items l.line l.rest

abbrev pub decreases-loop-rest : goal.decreases-loop-rest
decreases-loop-rest l = length l.rest
