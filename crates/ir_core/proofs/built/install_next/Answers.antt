use Rattle.std.proofs.Common.{List, ◌∙◌, sym, subst}
use Rattle.ir_core.specs.declared.event.Step.TheVariants as step
use Rattle.ir_core.specs.declared.built.Install.{Install}
use Rattle.ir_core.specs.Installed.{ControlsOn}
use Rattle.ir_core.proofs.Controls.{install_refused_so, install_accepted_so}
use Rattle.ir_core.proofs.built.install_next.Goals as goal

pub returns-then-not-new : goal.returns-then-not-new
returns-then-not-new g c =
    install_refused_so c.args.world.now c.apply_by-reply.new.self c.args.event c.args.next c.requires.next c.apply_by-reply.result c.apply_by-reply.ensures.same_opening c.apply_by-reply.ensures.history c.in-Ok.ensures.memory
    (sym c.in-Ok.ensures.told ∙ c.if-not-new.true) c.args.built.now.items

pub returns : goal.returns
returns g c =
    subst (λ (xs : List Install). ControlsOn c.args.world.now (step.Event c.args.event) c.args.built.now.items c.apply_by-reply.new.self xs) (sym c.in-Ok-push.ensures.items)
    (install_accepted_so c.args.world.now c.apply_by-reply.new.self c.args.event c.args.next c.requires.next c.apply_by-reply.result c.apply_by-reply.ensures.same_opening c.apply_by-reply.ensures.history c.in-Ok.ensures.memory
    (sym c.in-Ok.ensures.told ∙ c.if-not-new.false) c.args.built.now.items)
