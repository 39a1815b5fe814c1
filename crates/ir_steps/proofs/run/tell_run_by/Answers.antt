use Rattle.std.proofs.Common.{◌≡◌, ◌<◌, ◌≤◌, ◌+◌, ◌++◌, ◌∷◌, ◌∙◌, [], List, ℕ, length, take, get_or, ap, sym, subst, arith, string_bytes}
use Rattle.std.proofs.lemmas.List.{take_more, take_all}
use Rattle.ir_model.specs.Graph.{names}
use Rattle.ir_core.specs.declared.event.Step.{Step}
use Rattle.ir_steps.specs.Told.{IsTold}
use Rattle.ir_steps.proofs.Telling.{tells_none, tells_more, tells_all}
use Rattle.ir_steps.proofs.run.tell_run_by.Goals as goal

pub loop-i-init : goal.loop-i-init
loop-i-init g c =
    rw (c.in-Ok-with_capacity.ensures.items, c.in-Ok.ensures.ok)
    (tells_none c.args.opening (names c.args.graph.now) c.in_ok-world.world c.in_ok-world.ensures.opened c.in_ok-world.ensures.accepted c.in_ok-world.ensures.history)

pub loop-i-preserved : goal.loop-i-preserved
loop-i-preserved g c =
    let i = c.loop-i.i in
    let lines = c.args.lines.now in
    let steps = c.args.steps.now in
    let lt : c.loop-i.i < length c.args.steps.now = omega (arith, c.loop-i-test.true) in
    let lt_lines : c.loop-i.i < length c.args.lines.now = omega (arith, c.loop-i-test.true, c.requires.lines) in
    let now = c.index-steps-i.result in
    let more_lines : take (i + 1) lines ≡ take i lines ++ get_or lines i 0 ∷ [] = take_more lines i 0 lt_lines in
    let more_steps : take (i + 1) steps ≡ take i steps ++ now ∷ [] = take_more steps i now lt ∙ ap (λ (s : Step). take i steps ++ s ∷ []) (sym c.index-steps-i.is) in
    rw (c.in-Ok-push.ensures.items, more_lines, more_steps)
    (tells_more c.args.opening (names c.args.graph.now) (take i lines) (take i steps) c.loop-i.replies.items c.loop-i.world c.tell_step.new.world (get_or lines i 0) now c.in-Ok-tell_step.reply
    (string_bytes c.loop-i.text) (string_bytes c.tell_step.new.text) c.loop-i.invariant c.in-Ok-tell_step.ensures)

pub returns-clause-told : goal.returns-clause-told
returns-clause-told g c =
    let i = c.loop-i.i in
    let lines = c.args.lines.now in
    let steps = c.args.steps.now in
    let nodes = names c.args.graph.now in
    let o = c.loop-i.world.opening in
    let le : length c.args.steps.now ≤ c.loop-i.i = omega arith in
    let le_lines : length c.args.lines.now ≤ c.loop-i.i = omega (arith, c.requires.lines) in
    let told = tells_all c.args.opening nodes (take i lines) (take i steps) c.loop-i.replies.items c.loop-i.world (string_bytes c.loop-i.text) c.loop-i.invariant c.records_are_sound.ensures in
    subst (λ (ls : List ℕ). IsTold nodes o ls steps c.loop-i.replies.items c.loop-i.world (string_bytes c.loop-i.text)) (take_all i lines le_lines)
    (subst (λ (ss : List Step). IsTold nodes o (take i lines) ss c.loop-i.replies.items c.loop-i.world (string_bytes c.loop-i.text)) (take_all i steps le) told)

pub tell_step-requires-clause-over : goal.tell_step-requires-clause-over
tell_step-requires-clause-over g c = λ κs le.
    sym c.requires.opening ∙ sym c.loop-i.invariant.ran.opened.topology

pub tell_step-requires-clause-history : goal.tell_step-requires-clause-history
tell_step-requires-clause-history g c = λ κs le. (c.loop-i.invariant.ran.log, c.loop-i.invariant.ran.shows)
