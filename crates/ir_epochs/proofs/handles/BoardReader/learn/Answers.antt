use Rattle.std.proofs.Common.{◌≡◌, ⊎_elim, inl, inr, ap}
use Rattle.ir_epochs.specs.declared.published.Published.{Published}
use Rattle.ir_epochs.specs.Handles.{told}
use Rattle.ir_epochs.proofs.Rising.{later_of}
use Rattle.ir_epochs.proofs.handles.BoardReader.learn.Goals as goal

pub returns-clause-rises : goal.returns-clause-rises
returns-clause-rises c =
    later_of (told c.args.receipt.now) c.note.new.newest.front.log c.note.ensures.other c.note.new.newest.made.rising

pub returns-clause-either : goal.returns-clause-either
returns-clause-either c = ⊎_elim (λ (t : c.note.new.newest ≡ c.args.self.now.newest). inl (ap (λ (p : Published). p.front.log) t))
    (λ (t : c.note.new.newest ≡ c.args.receipt.now.published). inr (ap (λ (p : Published). p.front.log) t)) c.note.ensures.either

pub returns-clause-receipt : goal.returns-clause-receipt
returns-clause-receipt c = c.note.ensures.other
