use Rattle.std.proofs.Common.{refl, []}
use Rattle.ir_epochs.specs.Handles.{known}
use Rattle.ir_worker.proofs.Counts.{same_even, head_weighs}
use Rattle.ir_worker.specs.Account.{restamps_with}
use Rattle.ir_worker.proofs.Nodes.{none_of_net, no_causes}
use Rattle.ir_worker.proofs.node.Node.new.Goals as goal

pub invariant_of-result-2-clause-account : goal.invariant_of-result-2-clause-account
invariant_of-result-2-clause-account c =
    λ p. same_even (head_weighs p) c.args.ends.inbox c.args.ends.inbox c.args.ends.ins.items c.args.ends.ins.items c.args.ends.outs.items [] c.args.ends.outcomes.items (c.requires.fresh (head_weighs p))
    refl refl c.requires.unsettled

pub invariant_of-result-2-clause-restamped : goal.invariant_of-result-2-clause-restamped
invariant_of-result-2-clause-restamped c =
    λ p never. same_even (restamps_with p) c.args.ends.inbox c.args.ends.inbox c.args.ends.ins.items c.args.ends.ins.items c.args.ends.outs.items [] c.args.ends.outcomes.items (c.requires.fresh (restamps_with p))
    refl refl c.requires.unsettled

pub invariant_of-result-2-clause-of_net : goal.invariant_of-result-2-clause-of_net
invariant_of-result-2-clause-of_net c = none_of_net c.args.common.opening c.args.common.restamps c.args.ends.outcomes.items c.requires.unsettled

pub invariant_of-result-2-clause-causes : goal.invariant_of-result-2-clause-causes
invariant_of-result-2-clause-causes c = no_causes (known c.args.reader) c.args.ends.outcomes.items c.requires.unsettled
