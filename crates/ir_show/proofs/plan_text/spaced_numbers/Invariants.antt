use Rattle.std.proofs.Common.{decimal}
use Rattle.ir_show.specs.Blocks.{AreSpaced}
use Rattle.ir_show.proofs.plan_text.spaced_numbers.Given as goal

abbrev pub invariant-loop-n : goal.invariant-loop-n
invariant-loop-n l = AreSpaced decimal l.n l.texts
