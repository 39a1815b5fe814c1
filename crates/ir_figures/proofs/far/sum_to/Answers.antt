use Rattle.std.proofs.Common.{arith}
use Rattle.ir_tables.specs.Relaxation.{at}
use Rattle.ir_show.proofs.StatsSums.{sum_to_more}
use Rattle.ir_figures.proofs.far.sum_to.Goals as goal

pub loop-u-preserved : goal.loop-u-preserved
loop-u-preserved c =
    (sum_to_more (at c.args.weights.now) c.loop-u.u c.args.d c.loop-u.sum c.weight_apart.result c.loop-u.invariant.0 c.weight_apart.ensures, omega (arith, c.loop-u.invariant.1, c.weight_apart.type_inv))
