use Rattle.std.proofs.Common.{subst, sym}
use Rattle.ir_epochs.specs.declared.registry.Stamp.{Stamp}
use Rattle.ir_epochs.specs.Handles.{told}
use Rattle.ir_worker.specs.Seen.{IsOfNet}
use Rattle.ir_worker.proofs.Nodes.{current_of_net}
use Rattle.ir_control.proofs.injector.Injector.learn.Goals as goal

pub invariant_of-self-clause-newest_of : goal.invariant_of-self-clause-newest_of
invariant_of-self-clause-newest_of c =
    subst (λ (s : Stamp). IsOfNet c.args.self.now.opening s) (sym c.again.ensures)
    (current_of_net c.args.self.now.opening (told c.args.receipt.now) c.in-Some.stamp.now c.in-Some.ensures.current c.requires.registry c.requires.topology)
