use Rattle.std.proofs.Common.{length}
use Rattle.ir_streams.specs.Pouring.{TakesAllBut}
use Rattle.ir_streams.proofs.writing.put_all.Given as goal

abbrev pub invariant-loop-rest : goal.invariant-loop-rest
invariant-loop-rest g l = TakesAllBut g.W.Writer.contents g.W.Writer.wrote g.W.Writer.settled l.fn.writer l.text l.writer l.rest

abbrev pub decreases-loop-rest : goal.decreases-loop-rest
decreases-loop-rest g l = length l.rest
