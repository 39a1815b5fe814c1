use Rattle.std.proofs.Common.{take}
use Rattle.ir_trace.specs.Checked.{ArePlansOf}
use Rattle.ir_trace.proofs.judging.plans_by.Given as goal

abbrev pub invariant-loop-install : goal.invariant-loop-install
invariant-loop-install g l = ArePlansOf l.topology (take l.install-index l.installs) l.plans.items
