use Rattle.std.proofs.Common.{◌-◌, length}
use Rattle.ir_cli.proofs.Cutting.{IsBefore}
use Rattle.ir_cli.proofs.parting.cut.Given as goal

abbrev pub invariant-loop-at : goal.invariant-loop-at
invariant-loop-at l = IsBefore l.input l.at

abbrev pub decreases-loop-at : goal.decreases-loop-at
decreases-loop-at l = length l.input - l.at
