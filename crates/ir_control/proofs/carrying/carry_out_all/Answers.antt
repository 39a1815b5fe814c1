use Rattle.std.specs.Prelude.{◌≡◌, ℕ, ◌∷◌, [], ◌++◌, List, take, length}
use Rattle.std.proofs.Common.{arith, refl, ap, subst, ◌∙◌}
use Rattle.std.proofs.Math.Seq.{take-length}
use Rattle.ir_core.specs.declared.command.Command.{Command}
use Rattle.ir_epochs.specs.declared.registry.Stamp.{Stamp}
use Rattle.ir_control.specs.Carried.{AreCarriedOut}
use Rattle.ir_control.specs.Desks.{desk_of}
use Rattle.ir_control.proofs.Accepting.{one_net}
use Rattle.ir_control.proofs.Commanded.{carried_to}
use Rattle.ir_control.proofs.carrying.carry_out_all.Goals as goal

pub loop-place-preserved : goal.loop-place-preserved
loop-place-preserved g c =
    let had = c.loop-place.invariant in
    let more = carried_to g.R.Moments.was_full c.args.commands.now c.loop-place.place c.index-commands-place.result c.index-commands-place.result (desk_of c.args.parts.now) (desk_of c.loop-place.parts) (desk_of c.carry_out-answer.new.parts) c.loop-place.refusals.items c.note.new.refusals.items
    c.args.net.now.opening c.loop-place.stamps.items c.note.new.stamps.items c.carry_out-answer.result
    c.loop-place-test.true c.index-commands-place.is (had.0, had.1, had.2, had.3) c.carry_out-answer.ensures c.in_ok-note.ensures.refusals c.in_ok-note.ensures.stamps in
    (more.0, more.1, more.2, more.3, one_net g.R.Moments.was_full _ (desk_of c.loop-place.parts) (desk_of c.carry_out-answer.new.parts) c.carry_out-answer.result c.carry_out-answer.ensures had.4)

pub loop-place-init : goal.loop-place-init
loop-place-init g c = (
  [],
  refl,
  c.in_ok-refusals.ensures.items,
  c.in_ok-push.ensures.items ∙ ap (λ (xs : List Stamp). xs ++ c.again.result ∷ []) c.in_ok-stamps.ensures.items
      ∙ ap (λ (s : Stamp). s ∷ []) (c.again.ensures ∙ c.opening.ensures),
  c.requires,
)

pub returns : goal.returns
returns g c =
    let had = c.loop-place.invariant in
    let least = c.loop-place-test.false in
    let most = c.loop-place.auto.place-end in
    let at : c.loop-place.place ≡ length c.args.commands.now = omega (arith, least, most) in (
      had.0,
      subst (λ (cs : List Command). AreCarriedOut g.R.Moments.was_full cs (desk_of c.args.parts.now) had.0 (desk_of c.loop-place.parts))
          (ap (λ (n : ℕ). take n c.args.commands.now) at ∙ take-length c.args.commands.now) had.1,
      had.2,
      had.3,
    )
