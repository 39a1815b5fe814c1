use Rattle.std.proofs.Common.{◌≡◌, ◌<◌, ◌+◌, ◌++◌, ◌∷◌, ◌∙◌, [], length, take, ap, sym, arith}
use Rattle.std.proofs.lemmas.List.{take_more, take_all}
use Rattle.ir_core.specs.declared.event.Step.{Step}
use Rattle.ir_core.proofs.Runs.{ran_more, ran_played}
use Rattle.ir_core.proofs.run.play_by.Goals as goal

pub loop-step-preserved : goal.loop-step-preserved
loop-step-preserved g c =
    let i = c.loop-step.step-index in
    let steps = c.args.steps.now in
    let lt : c.loop-step.step-index < length c.args.steps.now = omega (arith, c.loop-step-test.true) in
    let now = c.step-item.result in
    let more : take (i + 1) steps ≡ take i steps ++ (now ∷ []) = take_more steps i now lt ∙ ap (λ (s : Step). take i steps ++ (s ∷ [])) (sym c.step-item.is) in
    rw (c.in-Ok-push.ensures.items, more)
    (ran_more c.args.opening (take i steps) c.loop-step.replies.items
    c.loop-step.world c.step-reply.new.self now c.step-reply.result c.loop-step.invariant c.step-reply.ensures.same_opening c.step-reply.ensures.history)

pub returns-clause-played : goal.returns-clause-played
returns-clause-played g c =
    let all : take c.loop-step.step-index c.args.steps.now ≡ c.args.steps.now = take_all c.loop-step.step-index c.args.steps.now (omega arith) in
    rw all at (ran_played c.args.opening (take c.loop-step.step-index c.args.steps.now) c.loop-step.replies.items
    c.loop-step.world c.loop-step.invariant c.records_are_sound.ensures)
