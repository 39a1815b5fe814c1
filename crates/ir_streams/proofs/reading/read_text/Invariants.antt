use Rattle.ir_streams.proofs.Given.{IsReading}
use Rattle.ir_streams.proofs.reading.read_text.Given as goal

abbrev pub invariant-loop-turn : goal.invariant-loop-turn
invariant-loop-turn g l = IsReading g.R.Reader.remaining g.R.Reader.gave l.fn.reader l.text.items l._turn l.reader
