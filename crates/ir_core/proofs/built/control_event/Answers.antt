use Rattle.std.proofs.Common.{Bool, List, sym, subst}
use Rattle.std.specs.Prelude.{IfOk}
use Rattle.ir_core.specs.declared.event.Event.{Event}
use Rattle.ir_core.specs.declared.event.Event.TheVariants as event
use Rattle.ir_core.specs.declared.event.Step.TheVariants as step
use Rattle.ir_core.specs.declared.built.Install.{Install}
use Rattle.ir_core.specs.Installed.{ControlsOn, IsNextInstall}
use Rattle.ir_core.proofs.Controls.{of_installs}
use Rattle.ir_core.proofs.built.control_event.Goals as goal

pub install_next-requires-clause-next : goal.install_next-requires-clause-next
install_next-requires-clause-next g c = λ κs le.
    subst (λ (k : Bool). IsNextInstall c.args.world.now k c.in-Install.kind c.in-Install.root c.in_ok-next-in-Install.next) c.keeps.ensures c.in_ok-next-in-Install.ensures

pub returns-in-Retire : goal.returns-in-Retire
returns-in-Retire g c =
    let is = c.in-Retire.is in
    subst (λ (e : Event). IfOk c.change.result (λ _. ControlsOn c.args.world.now (step.Event e) c.args.built.now.items c.change.new.world c.args.built.now.items)) (sym is)
    (of_installs c.change.result (λ (installs : List Install). ControlsOn c.args.world.now (step.Event (event.Retire c.in-Retire.floor)) installs c.change.new.world installs) c.change.ensures c.args.built.now.items)

pub returns-in-Down : goal.returns-in-Down
returns-in-Down g c =
    let is = c.in-Down.is in
    subst (λ (e : Event). IfOk c.change-in-Down.result (λ _. ControlsOn c.args.world.now (step.Event e) c.args.built.now.items c.change-in-Down.new.world c.args.built.now.items)) (sym is)
    (of_installs c.change-in-Down.result (λ (installs : List Install). ControlsOn c.args.world.now (step.Event (event.Down c.in-Down.link)) installs c.change-in-Down.new.world installs) c.change-in-Down.ensures c.args.built.now.items)

pub returns-in-Up : goal.returns-in-Up
returns-in-Up g c =
    let is = c.in-Up.is in
    subst (λ (e : Event). IfOk c.change-in-Up.result (λ _. ControlsOn c.args.world.now (step.Event e) c.args.built.now.items c.change-in-Up.new.world c.args.built.now.items)) (sym is)
    (of_installs c.change-in-Up.result (λ (installs : List Install). ControlsOn c.args.world.now (step.Event (event.Up c.in-Up.link)) installs c.change-in-Up.new.world installs) c.change-in-Up.ensures c.args.built.now.items)

pub returns-in-Avoid : goal.returns-in-Avoid
returns-in-Avoid g c =
    let is = c.in-Avoid.is in
    subst (λ (e : Event). IfOk c.change-in-Avoid.result (λ _. ControlsOn c.args.world.now (step.Event e) c.args.built.now.items c.change-in-Avoid.new.world c.args.built.now.items)) (sym is)
    (of_installs c.change-in-Avoid.result (λ (installs : List Install). ControlsOn c.args.world.now (step.Event (event.Avoid c.in-Avoid.link)) installs c.change-in-Avoid.new.world installs) c.change-in-Avoid.ensures c.args.built.now.items)

pub returns-in-Heed : goal.returns-in-Heed
returns-in-Heed g c =
    let is = c.in-Heed.is in
    subst (λ (e : Event). IfOk c.change-in-Heed.result (λ _. ControlsOn c.args.world.now (step.Event e) c.args.built.now.items c.change-in-Heed.new.world c.args.built.now.items)) (sym is)
    (of_installs c.change-in-Heed.result (λ (installs : List Install). ControlsOn c.args.world.now (step.Event (event.Heed c.in-Heed.link)) installs c.change-in-Heed.new.world installs) c.change-in-Heed.ensures c.args.built.now.items)
