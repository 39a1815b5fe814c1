use Rattle.std.proofs.Common.{sym, subst}
use Rattle.ir_model.specs.Topology.{Topology}
use Rattle.ir_epochs.specs.Over.{IsOver}
use Rattle.ir_epochs.specs.Stamps.{knows}
use Rattle.ir_live_tests.proofs.epochs.over_board.Goals as goal

pub returns : goal.returns
returns g c = subst (λ (net : Topology). IsOver net (knows c.args.stamp.now).topology) (sym c.requires.topology) c.requires.over
