use Rattle.std.proofs.Common.{take, string_bytes}
use Rattle.ir_model.specs.Graph.{names}
use Rattle.ir_steps.proofs.Telling.{TellsSo}
use Rattle.ir_steps.proofs.run.tell_run_by.Given as goal

abbrev pub invariant-loop-i : goal.invariant-loop-i
invariant-loop-i g l = TellsSo l.fn.opening (names l.graph) (take l.i l.lines) (take l.i l.steps) l.replies.items l.world (string_bytes l.text)
