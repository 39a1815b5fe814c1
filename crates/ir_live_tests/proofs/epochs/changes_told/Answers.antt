use Rattle.std.proofs.Common.{◌∙◌, sym, subst}
use Rattle.ir_model.specs.Topology.{Topology}
use Rattle.ir_epochs.specs.Over.{IsOver}
use Rattle.ir_epochs.specs.Stamps.{knows}
use Rattle.ir_live_tests.proofs.epochs.changes_told.Goals as goal

pub install-requires-clause-registry : goal.install-requires-clause-registry
install-requires-clause-registry g c = c.requires.registry ∙ sym c.mark.ensures.opening.registry

pub install-requires-clause-over : goal.install-requires-clause-over
install-requires-clause-over g c = subst (λ (net : Topology). IsOver net (knows c.args.next).topology) (sym c.mark.ensures.opening.topology) c.requires.over
