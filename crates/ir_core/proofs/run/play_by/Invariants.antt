use Rattle.std.proofs.Common.{take}
use Rattle.ir_core.proofs.Runs.{Ran}
use Rattle.ir_core.proofs.run.play_by.Given as goal

abbrev pub invariant-loop-step : goal.invariant-loop-step
invariant-loop-step g l = Ran l.fn.opening (take l.step-index l.steps) l.replies.items l.world
