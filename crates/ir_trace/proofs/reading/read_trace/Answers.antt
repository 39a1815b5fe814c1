use Rattle.ir_trace.proofs.ReadAgain.{read_again}
use Rattle.ir_trace.proofs.SegmentsAgain.{segments_read}
use Rattle.ir_trace.proofs.ReadWithin.{read_within}
use Rattle.ir_trace.proofs.reading.read_trace.Goals as goal

pub returns-clause-again : goal.returns-clause-again
returns-clause-again c = read_again c.args.graph.now c.invariant.ensures.graph c.args.text.now c.read_rows.result c.read_rows.ensures.read c.read_rows.ensures.fault

pub returns-clause-within : goal.returns-clause-within
returns-clause-within c = read_within c.args.graph.now c.args.text.now c.read_rows.result c.read_rows.ensures.read

pub returns-clause-segments_again : goal.returns-clause-segments_again
returns-clause-segments_again c = segments_read c.args.graph.now c.invariant.ensures.graph c.args.text.now c.read_rows.result c.read_rows.ensures.read c.read_rows.ensures.fault
