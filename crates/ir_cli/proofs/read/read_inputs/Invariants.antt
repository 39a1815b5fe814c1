use Rattle.ir_cli.specs.Reading.{texts_of}
use Rattle.ir_cli.proofs.Inputs.{IsReading}
use Rattle.ir_cli.proofs.read.read_inputs.Given as goal

abbrev pub invariant-loop-i : goal.invariant-loop-i
invariant-loop-i g l = IsReading g.R.Reader.remaining g.R.Reader.gave l.fn.inputs l.inputs (texts_of l.read.items) l.i
