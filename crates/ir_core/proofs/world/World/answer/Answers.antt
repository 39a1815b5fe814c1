use Rattle.std.proofs.Common.{Bool, ap, inl, inr, refl, subst}
use Rattle.ir_core.specs.Drafts.{kept_order, labelling_by}
use Rattle.ir_core.specs.Meaning.{newest_plan}
use Rattle.ir_core.specs.Handled.{IsInstallAnswer}
use Rattle.ir_core.specs.World.{World, sight_in}
use Rattle.ir_core.proofs.Theorem.{same_setting, same_setting_or}
use Rattle.ir_core.proofs.world.World.answer.Goals as goal

pub returns-in-Inject-clause-answer : goal.returns-in-Inject-clause-answer
returns-in-Inject-clause-answer g c = rw c.in-Inject.is (elim c.inject.ensures [ inl a ↦ inl (_, refl, a) | inr a ↦ inr (a.0, a.1, a.2) ])

pub returns-in-Retire-clause-answer : goal.returns-in-Retire-clause-answer
returns-in-Retire-clause-answer g c = rw c.in-Retire.is (elim c.retire.ensures [ inl a ↦ inl (_, refl, a) | inr a ↦ inr (a.0, a.1, a.2) ])

pub returns-in-Down-clause-answer : goal.returns-in-Down-clause-answer
returns-in-Down-clause-answer g c = rw c.in-Down.is (elim c.mark.ensures [ inl a ↦ inl (_, refl, a) | inr a ↦ inr (a.0, a.1, a.2) ])

pub returns-in-Up-clause-answer : goal.returns-in-Up-clause-answer
returns-in-Up-clause-answer g c = rw c.in-Up.is (elim c.mark-in-Up.ensures [ inl a ↦ inl (_, refl, a) | inr a ↦ inr (a.0, a.1, a.2) ])

pub returns-in-Avoid-clause-answer : goal.returns-in-Avoid-clause-answer
returns-in-Avoid-clause-answer g c = rw c.in-Avoid.is (elim c.heed.ensures [ inl a ↦ inl (_, refl, a) | inr a ↦ inr (a.0, a.1, a.2) ])

pub returns-in-Heed-clause-answer : goal.returns-in-Heed-clause-answer
returns-in-Heed-clause-answer g c = rw c.in-Heed.is (elim c.heed-in-Heed.ensures [ inl a ↦ inl (_, refl, a) | inr a ↦ inr (a.0, a.1, a.2) ])

pub returns-in-Take-clause-same_opening : goal.returns-in-Take-clause-same_opening
returns-in-Take-clause-same_opening g c = same_setting c.args.self.now c.take.new.self _ c.take.result c.take.ensures

pub returns-in-Learn-clause-answer : goal.returns-in-Learn-clause-answer
returns-in-Learn-clause-answer g c = rw c.in-Learn.is (inl (_, refl, c.learn.ensures))

pub returns-in-Learn-clause-same_opening : goal.returns-in-Learn-clause-same_opening
returns-in-Learn-clause-same_opening g c = same_setting c.args.self.now c.learn.new.self _ c.learn.result c.learn.ensures

pub returns-in-Take-clause-answer : goal.returns-in-Take-clause-answer
returns-in-Take-clause-answer g c = rw c.in-Take.is (inl (_, refl, c.take.ensures))

pub returns-in-Read-clause-answer : goal.returns-in-Read-clause-answer
returns-in-Read-clause-answer g c = rw c.in-Read.is (inl (_, refl, c.read.ensures))

pub returns-in-Read-clause-same_opening : goal.returns-in-Read-clause-same_opening
returns-in-Read-clause-same_opening g c = same_setting c.args.self.now c.read.new.self _ c.read.result c.read.ensures

pub returns-in-Act-clause-answer : goal.returns-in-Act-clause-answer
returns-in-Act-clause-answer g c = rw c.in-Act.is (inl (_, refl, c.act.ensures))

pub returns-in-Act-clause-same_opening : goal.returns-in-Act-clause-same_opening
returns-in-Act-clause-same_opening g c = same_setting c.args.self.now c.act.new.self _ c.act.result c.act.ensures

pub returns-in-Inject-clause-same_opening : goal.returns-in-Inject-clause-same_opening
returns-in-Inject-clause-same_opening g c = same_setting_or c.args.self.now c.inject.new.self _ c.inject.result c.inject.ensures

pub returns-in-Retire-clause-same_opening : goal.returns-in-Retire-clause-same_opening
returns-in-Retire-clause-same_opening g c = same_setting_or c.args.self.now c.retire.new.self _ c.retire.result c.retire.ensures

pub returns-in-Down-clause-same_opening : goal.returns-in-Down-clause-same_opening
returns-in-Down-clause-same_opening g c = same_setting_or c.args.self.now c.mark.new.self _ c.mark.result c.mark.ensures

pub returns-in-Up-clause-same_opening : goal.returns-in-Up-clause-same_opening
returns-in-Up-clause-same_opening g c = same_setting_or c.args.self.now c.mark-in-Up.new.self _ c.mark-in-Up.result c.mark-in-Up.ensures

pub returns-in-Avoid-clause-same_opening : goal.returns-in-Avoid-clause-same_opening
returns-in-Avoid-clause-same_opening g c = same_setting_or c.args.self.now c.heed.new.self _ c.heed.result c.heed.ensures

pub returns-in-Heed-clause-same_opening : goal.returns-in-Heed-clause-same_opening
returns-in-Heed-clause-same_opening g c = same_setting_or c.args.self.now c.heed-in-Heed.new.self _ c.heed-in-Heed.result c.heed-in-Heed.ensures

pub returns-in-Install-clause-answer : goal.returns-in-Install-clause-answer
returns-in-Install-clause-answer g c =
    let s = c.args.self.now in
    rw c.in-Install.is
    (subst (λ (k : Bool). IsInstallAnswer s c.install.new.self (labelling_by s.opening.labels c.in-Install.root (kept_order k c.in-Install.kind (newest_plan s.opening (sight_in s)).order)) c.in-Install.kind c.in-Install.root c.install.result)
    c.keeps-keeps.ensures c.install.ensures)

pub returns-in-Renumber-clause-answer : goal.returns-in-Renumber-clause-answer
returns-in-Renumber-clause-answer g c = rw c.in-Renumber.is c.install-in-Renumber.ensures

pub returns-in-Renumber-clause-same_opening : goal.returns-in-Renumber-clause-same_opening
returns-in-Renumber-clause-same_opening g c = elim c.install-in-Renumber.ensures [ inl a ↦ same_setting c.args.self.now c.install-in-Renumber.new.self a.0 c.install-in-Renumber.result a.2 | inr a ↦ ap (λ (x : World). x.opening) a.2 ]

pub returns-in-Install-clause-same_opening : goal.returns-in-Install-clause-same_opening
returns-in-Install-clause-same_opening g c = elim c.install.ensures [ inl a ↦ same_setting c.args.self.now c.install.new.self a.0 c.install.result a.2 | inr a ↦ ap (λ (x : World). x.opening) a.2 ]
