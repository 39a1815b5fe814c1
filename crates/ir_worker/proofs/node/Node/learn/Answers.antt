use Rattle.std.proofs.Common.{refl}
use Rattle.ir_epochs.specs.Handles.{known}
use Rattle.ir_worker.proofs.Nodes.{causes_later}
use Rattle.ir_worker.proofs.Restamps.{known_later}
use Rattle.ir_worker.proofs.node.Node.learn.Goals as goal

pub invariant_of-self-clause-causes : goal.invariant_of-self-clause-causes
invariant_of-self-clause-causes c =
    let n = c.args.self.now in
    causes_later (known n.reader) (known c.learn.new.self) n.outcomes.items n.outcomes.items n.causes c.learn.ensures.old refl

pub invariant_of-self-clause-restamped : goal.invariant_of-self-clause-restamped
invariant_of-self-clause-restamped c =
    let n = c.args.self.now in
    known_later (known n.reader) (known c.learn.new.self) n.entrances.inbox n.entrances.ports.items n.outs.items n.outcomes.items n.outcomes.items n.restamped c.learn.ensures.old refl
