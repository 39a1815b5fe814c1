use Rattle.std.proofs.Common.{◌∙◌, ◌++◌, ap, arith, get_or, Ok}
use Rattle.ir_core.specs.declared.event.Reply.TheVariants.{Injected}
use Rattle.ir_cli.specs.Lines.{reply_line}
use Rattle.ir_answer.proofs.Texts.{replies_more, replies_all}
use Rattle.ir_answer.proofs.play.refused_steps.Goals as goal

pub loop-i-preserved : goal.loop-i-preserved
loop-i-preserved c =
    let lines = c.args.lines.now in
    let replies = c.args.replies.now in
    c.in_ok-push_refused.ensures ∙ ap (λ t. t ++ reply_line (get_or lines c.loop-i.i 0, get_or replies c.loop-i.i (Ok (Injected 0)))) c.loop-i.invariant
    ∙ replies_more lines replies c.loop-i.i (0, Ok (Injected 0)) (omega arith) (omega arith)

pub returns : goal.returns
returns c = c.loop-i.invariant ∙ replies_all c.args.lines.now c.args.replies.now c.loop-i.i (omega arith)
