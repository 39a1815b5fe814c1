use Rattle.std.proofs.Common.{◌<◌, ◌∷◌, [], length, sym, subst, rules, arith}
use Rattle.ir_epochs.specs.declared.published.Published.{Published}
use Rattle.ir_epochs.specs.Entries.{MayComeNext}
use Rattle.ir_epochs.specs.declared.entry.Entry.TheVariants.{Changed}
use Rattle.ir_epochs.proofs.Lasts.{installed_last, made_more, opening_kept}
use Rattle.ir_epochs.proofs.handles.BoardWriter.change.Goals as goal

pub invariant_of-next : goal.invariant_of-next
invariant_of-next g c =
    let now = c.published-now.result.now in
    let change = c.args.change in
    let fits : MayComeNext now.front.log change = subst (λ (p : Published). MayComeNext p.front.log change) (sym c.published-now.ensures) c.requires.fits in
    record { made = rw (c.record-front.ensures.added, c.applied-board.ensures, c.stamp_after-stamp.ensures) (made_more now.front.log now.board now.stamp change now.made fits) }

pub invariant_of-receipt : goal.invariant_of-receipt
invariant_of-receipt g c =
    let now = c.published-now.result.now in
    record { installed = rw (c.again.ensures, c.installs-install.ensures, c.stamp_after-stamp.ensures, c.record-front.ensures.added) (installed_last now.front.log c.args.change c.published-now.result.now.stamp) }

pub returns-clause-change : goal.returns-clause-change
returns-clause-change g c = search rules

pub returns-clause-opening : goal.returns-clause-opening
returns-clause-opening g c =
    let old = c.args.self.now.writer.desk.shown.value in
    let some : 0 < length old.front.log = omega (arith, old.made.version) in
    opening_kept old.front.log _ (Changed c.args.change ∷ [], sym (returns-clause-change g c).0) some
