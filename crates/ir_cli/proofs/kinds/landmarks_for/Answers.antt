use Rattle.std.proofs.Common.{refl, arith}
use Rattle.ir_cli.proofs.Fewest.{none_yet}
use Rattle.ir_cli.proofs.kinds.landmarks_for.Goals as goal

pub loop-count-init : goal.loop-count-init
loop-count-init c = (0, refl, omega arith, none_yet c.args.nodes)
