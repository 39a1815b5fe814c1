use Rattle.std.proofs.Common.{◌≡◌, find, drop}
use Rattle.ir_model.specs.Row.{intervals_of}
use Rattle.ir_plan.specs.Shown.{has_label}
use Rattle.ir_show.proofs.interval.interval_with.Given as goal

abbrev pub invariant-loop-i : goal.invariant-loop-i
invariant-loop-i l = find (has_label l.label) (intervals_of l.row) ≡ find (has_label l.label) (drop l.i (intervals_of l.row))
