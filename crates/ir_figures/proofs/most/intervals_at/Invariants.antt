use Rattle.std.proofs.Common.{◌≡◌, ◌==◌, count_by, take}
use Rattle.ir_model.specs.Row.{start_ports}
use Rattle.ir_figures.proofs.most.intervals_at.Given as goal

abbrev pub invariant-loop-i : goal.invariant-loop-i
invariant-loop-i l = l.count ≡ count_by (λ q. q == l.p) (take l.i (start_ports l.row))
