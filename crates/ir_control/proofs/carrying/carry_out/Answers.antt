use Rattle.std.specs.Prelude.{◌≡◌, Ok, None, Option}
use Rattle.std.proofs.Common.{refl, sym, subst}
use Rattle.ir_links.specs.Ends.{Word}
use Rattle.ir_worker.specs.Seen.{Parcel}
use Rattle.ir_core.specs.declared.event.Refused.{Refused}
use Rattle.ir_core.specs.declared.command.Command.{Command}
use Rattle.ir_core.specs.declared.command.Command.TheVariants as command
use Rattle.ir_epochs.specs.declared.entry.Change.TheVariants as change
use Rattle.ir_control.specs.Desks.{Desk, desk_of}
use Rattle.ir_control.specs.Answers.{CommandAnswer, command_answer}
use Rattle.ir_control.specs.Carried.{IsCarriedOut}
use Rattle.ir_control.proofs.Commanded.{injected_as, changed_as}
use Rattle.ir_control.proofs.carrying.carry_out.Goals as goal

-- a command that is known to be this one
known : (was_full : Word Parcel) {B : Type 0} (command named : Command) (before after : Desk B) (r : Option Refused) (answer : CommandAnswer) → answer ≡ command_answer r → command ≡ named → IsCarriedOut was_full named before (command_answer r) after → IsCarriedOut was_full command before answer after
known was_full command named before after r answer told is done =
    subst (λ (k : Command). IsCarriedOut was_full k before answer after) (sym is) (subst (λ (x : CommandAnswer). IsCarriedOut was_full named before x after) (sym told) done)

pub returns-in-Inject : goal.returns-in-Inject
returns-in-Inject g c = known g.R.Moments.was_full _ (command.Inject c.in-Inject.source c.in-Inject.dest) (desk_of c.args.parts.now) _ c.err-refusal.result c.answered.result c.answered.ensures c.in-Inject.is (
  injected_as g.R.Moments.was_full c.in-Inject.source c.in-Inject.dest c.args.parts.now.injector c.inject.new.self c.inject.result c.err-refusal.result c.err-refusal.ensures.value c.inject.ensures.answer,
  record { opening = c.inject.ensures.same.0; lines = c.inject.ensures.lines; most = c.inject.ensures.same.2 },
  c.inject.ensures.same.1,
  refl,
)

pub returns-in-Install : goal.returns-in-Install
returns-in-Install g c = subst (λ (k : Command). IsCarriedOut g.R.Moments.was_full k (desk_of c.args.parts.now) c.install.result (desk_of c.install.new.parts)) (sym c.in-Install.is) c.install.ensures

pub returns-in-Renumber : goal.returns-in-Renumber
returns-in-Renumber g c = subst (λ (k : Command). IsCarriedOut g.R.Moments.was_full k (desk_of c.args.parts.now) c.install-in-Renumber.result (desk_of c.install-in-Renumber.new.parts)) (sym c.in-Renumber.is) c.install-in-Renumber.ensures

pub returns-in-Retire : goal.returns-in-Retire
returns-in-Retire g c = known g.R.Moments.was_full _ (command.Retire c.in-Retire.floor) (desk_of c.args.parts.now) _ c.err.result c.answered-in-Retire.result c.answered-in-Retire.ensures c.in-Retire.is
    (changed_as _ (change.Retire c.in-Retire.floor) (desk_of c.args.parts.now) _ c.retire.result c.err.result c.err.ensures.value refl c.retire.ensures.answer)

pub returns-in-Down : goal.returns-in-Down
returns-in-Down g c = known g.R.Moments.was_full _ (command.Down c.in-Down.link) (desk_of c.args.parts.now) _ c.err-in-Down.result c.answered-in-Down.result c.answered-in-Down.ensures c.in-Down.is
    (changed_as _ (change.Down c.in-Down.link) (desk_of c.args.parts.now) _ c.down.result c.err-in-Down.result c.err-in-Down.ensures.value refl c.down.ensures.answer)

pub returns-in-Up : goal.returns-in-Up
returns-in-Up g c = known g.R.Moments.was_full _ (command.Up c.in-Up.link) (desk_of c.args.parts.now) _ c.err-in-Up.result c.answered-in-Up.result c.answered-in-Up.ensures c.in-Up.is
    (changed_as _ (change.Up c.in-Up.link) (desk_of c.args.parts.now) _ c.up.result c.err-in-Up.result c.err-in-Up.ensures.value refl c.up.ensures.answer)

pub returns-in-Avoid : goal.returns-in-Avoid
returns-in-Avoid g c = known g.R.Moments.was_full _ (command.Avoid c.in-Avoid.link) (desk_of c.args.parts.now) _ c.err-in-Avoid.result c.answered-in-Avoid.result c.answered-in-Avoid.ensures c.in-Avoid.is
    (changed_as _ (change.Avoid c.in-Avoid.link) (desk_of c.args.parts.now) _ c.avoid.result c.err-in-Avoid.result c.err-in-Avoid.ensures.value refl c.avoid.ensures.answer)

pub returns-in-Heed : goal.returns-in-Heed
returns-in-Heed g c = known g.R.Moments.was_full _ (command.Heed c.in-Heed.link) (desk_of c.args.parts.now) _ c.err-in-Heed.result c.answered-in-Heed.result c.answered-in-Heed.ensures c.in-Heed.is
    (changed_as _ (change.Heed c.in-Heed.link) (desk_of c.args.parts.now) _ c.heed.result c.err-in-Heed.result c.err-in-Heed.ensures.value refl c.heed.ensures.answer)

pub returns-in-Drain : goal.returns-in-Drain
returns-in-Drain g c = subst (λ (k : Command). IsCarriedOut g.R.Moments.was_full k (desk_of c.args.parts.now) (Ok None) (desk_of c.args.parts.now)) (sym c.in-Drain.is) (refl, refl, refl)
