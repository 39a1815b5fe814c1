use Rattle.std.proofs.Common.{arith}
use Rattle.ir_core.specs.MarkLaws.{words_in-marks_in}
use Rattle.ir_core.proofs.marks.MarksPartialEq.eq.Goals as goal

pub returns : goal.returns
returns c = grind (arith, words_in-marks_in)
