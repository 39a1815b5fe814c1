use Rattle.std.proofs.Common.{take}
use Rattle.ir_core.proofs.Controls.{ControlSo}
use Rattle.ir_core.proofs.built.installs_with_plans_by.Given as goal

abbrev pub invariant-loop-step : goal.invariant-loop-step
invariant-loop-step g l =
    ControlSo l.fn.opening (take l.step-index l.steps) l.world l.built.items
