use Rattle.std.proofs.Common.{◌≡◌, ◌≤◌, ◌*◌}
use Rattle.ir_tables.specs.Relaxation.{at}
use Rattle.ir_show.specs.Figures.{sum_to}
use Rattle.ir_figures.proofs.far.sum_to.Given as goal

abbrev pub invariant-loop-u : goal.invariant-loop-u
invariant-loop-u l = (l.sum ≡ sum_to l.u (at l.weights) l.d) × (l.sum ≤ 4294967296 * l.u)
