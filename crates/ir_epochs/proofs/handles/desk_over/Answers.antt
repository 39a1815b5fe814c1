use Rattle.std.proofs.Common.{ap, ◌∙◌}
use Rattle.ir_epochs.proofs.Fronts.{prefix_self}
use Rattle.ir_epochs.proofs.handles.desk_over.Goals as goal

pub publish-requires-clause-later : goal.publish-requires-clause-later
publish-requires-clause-later g c = rw (ap (λ p. p.front.log) (c.in-Ok.ensures.0 ∙ c.again.ensures)) (prefix_self c.args.first.now.front.log)

pub publish-requires-2-clause-later : goal.publish-requires-2-clause-later
publish-requires-2-clause-later g c = rw (ap (λ p. p.front.log) c.in-Ok-publish.ensures.shown) (prefix_self c.args.first.now.front.log)
