use Rattle.ir_streams.proofs.Tried.{AreInVain}
use Rattle.ir_streams.proofs.writing.flush.Given as goal

abbrev pub invariant-loop-turn : goal.invariant-loop-turn
invariant-loop-turn g l = AreInVain g.W.Writer.contents g.W.Writer.settled l.fn.writer l._turn l.writer
