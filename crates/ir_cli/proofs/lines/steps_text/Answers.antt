use Rattle.std.proofs.Common.{◌≡◌, ◌∙◌, ◌++◌, ◌+◌, ◌<◌, ℕ, List, [], ap, arith, flat_map, get_or, length, take, sym}
use Rattle.std.proofs.lemmas.List.{flat_map_more, take_more, take_all}
use Rattle.ir_core.specs.declared.event.Refused.{Refused}
use Rattle.ir_core.specs.declared.event.Refused.TheVariants.{NoNode}
use Rattle.ir_cli.specs.Lines.{step_line}
use Rattle.ir_cli.proofs.lines.steps_text.Goals as goal

-- one more step
step_more : (steps : List (ℕ × Refused)) (i : ℕ) (d : ℕ × Refused) → i < length steps
    → flat_map step_line (take i steps) ++ step_line (get_or steps i d) ≡ flat_map step_line (take (i + 1) steps)
step_more steps i d within =
    flat_map_more step_line [] (take i steps) (get_or steps i d) ∙ ap (flat_map step_line) (sym (take_more steps i d within))

pub loop-i-preserved : goal.loop-i-preserved
loop-i-preserved c =
    let steps = c.args.steps.now in
    c.in_ok-push_step.ensures ∙ ap (λ t. t ++ step_line (get_or steps c.loop-i.i (0, NoNode))) c.loop-i.invariant
    ∙ step_more steps c.loop-i.i (0, NoNode) (omega arith)

pub returns : goal.returns
returns c = c.loop-i.invariant ∙ ap (flat_map step_line) (take_all c.loop-i.i c.args.steps.now (omega arith))
