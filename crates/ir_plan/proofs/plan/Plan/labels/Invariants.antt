use Rattle.std.proofs.Common.{◌≡◌, length, take, sum_by}
use Rattle.ir_plan.proofs.plan.Plan.labels.Given as goal

abbrev pub invariant-loop-row : goal.invariant-loop-row
invariant-loop-row l = l.starts ≡ sum_by length (take l.row-index l.row-items)
