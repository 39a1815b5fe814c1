use Rattle.ir_figures.proofs.FarAway.{far_are}
use Rattle.ir_figures.proofs.far.far_figures.Goals as goal

pub returns : goal.returns
returns c = far_are c.args.plan.now c.invariant.ensures.plan c.requires c.in_ok-sum.sum c.in_ok-worst.worst c.in_ok-sum.ensures c.in_ok-worst.ensures
