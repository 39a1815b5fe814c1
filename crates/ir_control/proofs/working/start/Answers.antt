use Rattle.std.proofs.Common.{ap, ◌∙◌}
use Rattle.ir_worker.specs.declared.serving.ComesBack.{ComesBack}
use Rattle.ir_control.proofs.working.start.Goals as goal

pub returns-clause-started : goal.returns-clause-started
returns-clause-started g c =
    let same = c.in-Ok.ensures.ok in (
      c.in-Ok.handle,
      c.in-Ok-push.ensures.items,
      ap (λ (p : ComesBack _ _ _). p.node.value) same ∙ c.of-promise.ensures.node,
      (ap (λ (p : ComesBack _ _ _). p.stop.value) same ∙ c.of-promise.ensures.stop, ap (λ (p : ComesBack _ _ _). p.gate.value) same ∙ c.of-promise.ensures.gate),
    )
