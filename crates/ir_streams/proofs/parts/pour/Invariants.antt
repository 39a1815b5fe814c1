use Rattle.std.proofs.Common.{◌+◌, ◌++◌, length}
use Rattle.ir_streams.specs.Pouring.{TakesAllBut}
use Rattle.ir_streams.specs.Room.{IsRoom}
use Rattle.ir_streams.proofs.parts.pour.Given as goal

abbrev pub invariant-loop-rest : goal.invariant-loop-rest
invariant-loop-rest g l = record {
  room : IsRoom l.kept;
  writes : TakesAllBut g.W.Writer.contents g.W.Writer.wrote g.W.Writer.settled l.fn.writer (l.fn.kept.items ++ l.bytes) l.writer (l.kept.items ++ l.rest);
}

abbrev pub decreases-loop-rest : goal.decreases-loop-rest
decreases-loop-rest g l = length l.kept.items + length l.rest
