use Rattle.ir_epochs.proofs.published.Published.again.Goals as goal

pub invariant_of-result : goal.invariant_of-result
invariant_of-result c = record { made = rw (c.again.ensures, c.again-2.ensures) c.args.self.now.made }
