use Rattle.std.proofs.Common.{ℕ, List, inl}
use Rattle.std.proofs.lemmas.Result.{IfOk-weaker}
use Rattle.ir_cli.specs.declared.read.Source.{Source}
use Rattle.page.specs.declared.answer.Answered.{Answered}
use Rattle.page.specs.Calls.{text_for, IsFollowed, IsCallAnswer}
use Rattle.page.proofs.answer.answer_to.Goals as goal

pub returns-in-Ok : goal.returns-in-Ok
returns-in-Ok c =
    let text : Source → List ℕ = text_for c.args.topology.now c.args.script.now c.args.trace.now in
    IfOk-weaker c.followed.result (λ (it : Answered). IsFollowed c.in-Ok.words text it.status it.output.items it.faults.items)
    (λ (it : Answered). IsCallAnswer c.args.words.now text it.status it.output.items it.faults.items)
    (λ it followed. inl (c.in-Ok.words, c.in-Ok.ensures.asks, c.in-Ok.ensures.kind, followed)) c.followed.ensures
