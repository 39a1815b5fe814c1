use Rattle.ir_epochs.proofs.Lasts.{made_opened}
use Rattle.ir_epochs.proofs.handles.BoardWriter.open.Goals as goal

pub invariant_of-first : goal.invariant_of-first
invariant_of-first g c = record { made = rw (c.open-chronicle.ensures.first, c.opening.ensures, c.again.ensures, c.again-2.ensures) (made_opened c.args.links c.args.opening.now c.requires.epoch c.args.opening.now.sound c.requires.few) }
