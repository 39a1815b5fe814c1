use Rattle.std.proofs.Common.{◌≡◌, ◌<◌, ◌+◌, ◌++◌, ◌∷◌, ◌∙◌, [], length, take, ap, sym, arith}
use Rattle.std.proofs.lemmas.List.{take_more, take_all}
use Rattle.ir_core.specs.declared.event.Step.{Step}
use Rattle.ir_core.proofs.Controls.{control_more, control_all}
use Rattle.ir_core.proofs.built.installs_with_plans_by.Goals as goal

pub loop-step-preserved : goal.loop-step-preserved
loop-step-preserved g c =
    let i = c.loop-step.step-index in
    let o = c.args.opening.now in
    let steps = c.args.steps.now in
    let lt : c.loop-step.step-index < length c.args.steps.now = omega (arith, c.loop-step-test.true) in
    let now = c.step-item.result in
    let more : take (i + 1) steps ≡ take i steps ++ (now ∷ []) = take_more steps i now lt ∙ ap (λ (s : Step). take i steps ++ (s ∷ [])) (sym c.step-item.is) in
    rw more
    (control_more o (take i steps) now c.loop-step.world c.control.new.world c.loop-step.built.items c.control.new.built.items
    c.loop-step.invariant c.in-Ok.ensures)

pub returns-clause-built : goal.returns-clause-built
returns-clause-built g c =
    let o = c.args.opening.now in
    let all : take c.loop-step.step-index c.args.steps.now ≡ c.args.steps.now = take_all c.loop-step.step-index c.args.steps.now (omega arith) in
    control_all o (take c.loop-step.step-index c.args.steps.now) c.args.steps.now c.loop-step.world c.loop-step.built.items c.into_plans.result.items all c.loop-step.invariant c.into_plans.ensures
