use Rattle.std.proofs.Common.{Result, ℕ}
use Rattle.ir_streams.specs.declared.call.CallError.{CallError}
use Rattle.ir_streams.proofs.Tried.{AreInVain}
use Rattle.ir_streams.proofs.writing.put_some.Given as goal

abbrev pub invariant-loop-turn : goal.invariant-loop-turn
invariant-loop-turn g l = AreInVain g.W.Writer.contents (λ old (taken : Result ℕ CallError) new. g.W.Writer.wrote old l.bytes taken new) l.fn.writer l._turn l.writer
