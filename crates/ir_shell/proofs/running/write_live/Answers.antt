use Rattle.std.proofs.Common.{◌≡◌, Option, subst}
use Rattle.ir_model.specs.Text.{lines}
use Rattle.ir_json.specs.declared.shape.Shape.{Shape}
use Rattle.ir_cli.specs.Notices.{ShowsFound}
use Rattle.ir_cli.specs.Openings.{AnswersTopology}
use Rattle.ir_cli.specs.Reading.{texts_of}
use Rattle.ir_cli.specs.Told.{Sends}
use Rattle.ir_cli.specs.declared.words.Sub.TheVariants.{Live}
use Rattle.ir_answer.specs.Formed.{in_shape}
use Rattle.ir_answer.specs.Runs.{Written, written_of, GivenAs}
use Rattle.ir_answer.proofs.Answering.{gives_more}
use Rattle.ir_answer.proofs.Runs.{ends_given}
use Rattle.ir_shell.specs.Asked.{LiveAnswers}
use Rattle.ir_shell.specs.Lives.{AnswersLiveScript}
use Rattle.ir_shell.proofs.running.write_live.Goals as goal

pub returns-clause-ends : goal.returns-clause-ends
returns-clause-ends g c =
    let words = c.args.words.now in
    let texts = texts_of c.args.texts.now in
    let topology = c.two_texts.result.0.now in
    let script = c.two_texts.result.1.now in
    let rt = c.args.rt.now in
    let to : Written = written_of g.W.Writer g.F.Writer c.args.output.now c.write_given.new.output c.args.faults.now c.write_given.new.faults in
    ends_given (LiveAnswers g.T.Moments g.T.Looks g.T.Starter rt words) Live words texts to
    c.run_commands-plain.result c.write_given.result.ending
    (gives_more (AnswersTopology words.format (lines topology) (AnswersLiveScript g.T.Moments g.T.Looks g.T.Starter rt words (lines script)))
    (LiveAnswers g.T.Moments g.T.Looks g.T.Starter rt words texts) (λ answer holds. (topology, script, c.two_texts.ensures, holds)) c.run_commands-plain.result c.run_commands-plain.ensures)
    (subst (λ (shape : Option Shape). GivenAs (in_shape shape) c.run_commands-plain.result c.write_given.result.ending to) c.form_of-form.ensures c.write_given.ensures.ends)

pub returns-clause-found : goal.returns-clause-found
returns-clause-found g c =
    let output = c.args.output.now in
    subst (λ (shape : Option Shape). ShowsFound (in_shape shape) c.write_given.result.found c.write_given.result.ending (Sends g.W.Writer.contents g.W.Writer.wrote g.W.Writer.settled output c.write_given.new.output))
    c.form_of-form.ensures c.write_given.ensures.found
