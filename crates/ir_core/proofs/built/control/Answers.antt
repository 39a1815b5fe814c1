use Rattle.std.proofs.Common.{sym, subst}
use Rattle.std.specs.Prelude.{IfOk}
use Rattle.ir_core.specs.declared.event.Step.{Step}
use Rattle.ir_core.specs.Installed.{ControlsOn}
use Rattle.ir_core.proofs.built.control.Goals as goal

pub returns-in-Event : goal.returns-in-Event
returns-in-Event g c =
    subst (λ (s : Step). IfOk c.control_event.result (λ _. ControlsOn c.args.world.now s c.args.built.now.items c.control_event.new.world c.control_event.new.built.items)) (sym c.in-Event.is) c.control_event.ensures
