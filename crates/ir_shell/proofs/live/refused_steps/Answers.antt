use Rattle.std.proofs.Common.{◌∙◌, ◌++◌, [], ℕ, ap, arith, flat_map, get_or, sym}
use Rattle.std.proofs.lemmas.List.{flat_map_more, take_all}
use Rattle.ir_core.specs.declared.event.Refused.TheVariants.{NoNode}
use Rattle.ir_cli.specs.Lines.{refused_line, step_line, steps_text}
use Rattle.ir_shell.specs.Lives.{refusal_line}
use Rattle.ir_shell.proofs.Refusals.{refusals_more}
use Rattle.ir_shell.proofs.live.refused_steps.Goals as goal

pub loop-i-preserved : goal.loop-i-preserved
loop-i-preserved c =
    let lines = c.args.lines.now in
    let refusals = c.args.refusals.now in
    let steps = c.loop-i.steps.items in
    let refusal = (get_or refusals c.loop-i.i (0, NoNode)).1 in
    ap steps_text c.in_ok-push.ensures.items ∙ sym (flat_map_more step_line [] steps (c.line_at.result, refusal))
    ∙ ap (λ (n : ℕ). steps_text steps ++ refused_line n refusal) c.line_at.ensures
    ∙ ap (λ t. t ++ refusal_line lines (get_or refusals c.loop-i.i (0, NoNode))) c.loop-i.invariant ∙ refusals_more lines refusals c.loop-i.i (0, NoNode) (omega arith)

pub returns : goal.returns
returns c = c.loop-i.invariant ∙ ap (flat_map (refusal_line c.args.lines.now)) (take_all c.loop-i.i c.args.refusals.now (omega arith))
