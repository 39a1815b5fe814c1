use Rattle.std.proofs.Common.{sym, subst}
use Rattle.ir_model.specs.Text.{lines}
use Rattle.ir_cli.specs.Openings.{AnswersTopology}
use Rattle.ir_cli.specs.Reading.{texts_of}
use Rattle.ir_cli.specs.declared.words.Sub.{Sub}
use Rattle.ir_answer.specs.Asked.{CheckAnswers, NoThreads, PlainBy}
use Rattle.ir_answer.specs.Checks.{AnswersChecked}
use Rattle.ir_answer.specs.Stops.{Gives}
use Rattle.ir_answer.proofs.Answering.{gives_more}
use Rattle.ir_answer.proofs.running.answer_by.Goals as goal

pub returns-in-Check : goal.returns-in-Check
returns-in-Check g c =
    let words = c.args.request.now.words.now in
    let texts = texts_of c.args.texts.now in
    let topology = c.three_texts.result.0.now in
    let script = c.three_texts.result.1.now in
    let trace = c.three_texts.result.2.now in
    subst (λ (sub : Sub). Gives (PlainBy NoThreads sub words texts) c.check.result) (sym c.in-Check.is)
    (gives_more (AnswersTopology words.format (lines topology) (AnswersChecked words (lines script) trace)) (CheckAnswers words texts)
    (λ answer holds. (topology, script, trace, c.three_texts.ensures, holds)) c.check.result c.check.ensures)
