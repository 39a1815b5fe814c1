use Rattle.std.proofs.Common.{refl, sym, subst}
use Rattle.std.specs.Prelude.{Ok}
use Rattle.ir_core.specs.declared.event.Reply.TheVariants.{Changed}
use Rattle.ir_core.specs.declared.event.Step.{Step}
use Rattle.ir_core.specs.Run.{StepsAfter}
use Rattle.ir_core.proofs.world.World.step.Goals as goal

pub returns-in-Event-clause-history : goal.returns-in-Event-clause-history
returns-in-Event-clause-history g c = λ log k.
    subst (λ (s : Step). StepsAfter log s c.apply_by.result c.args.self.now.opening c.apply_by.new.self) (sym c.in-Event.is) (c.apply_by.ensures.history log k)

pub returns-in-Drain-clause-history : goal.returns-in-Drain-clause-history
returns-in-Drain-clause-history g c = λ log k.
    let d = c.drain.ensures.history log k in
    subst (λ (s : Step). StepsAfter log s (Ok Changed) c.args.self.now.opening c.drain.new.self) (sym c.in-Drain.is) (d.0, (refl, d.1), d.2)
