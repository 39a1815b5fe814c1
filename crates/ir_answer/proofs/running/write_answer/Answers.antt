use Rattle.std.proofs.Common.{Option, subst}
use Rattle.ir_json.specs.declared.shape.Shape.{Shape}
use Rattle.ir_cli.specs.Notices.{ShowsFound}
use Rattle.ir_cli.specs.Reading.{texts_of}
use Rattle.ir_cli.specs.Told.{Sends}
use Rattle.ir_answer.specs.Asked.{PlainBy, NoThreads}
use Rattle.ir_answer.specs.Formed.{in_shape}
use Rattle.ir_answer.specs.Runs.{Written, written_of, GivenAs}
use Rattle.ir_answer.proofs.Runs.{ends_given}
use Rattle.ir_answer.proofs.running.write_answer.Goals as goal

pub returns-clause-ends : goal.returns-clause-ends
returns-clause-ends g c =
    let sub = c.args.request.now.sub in
    let words = c.args.request.now.words.now in
    let to : Written = written_of g.W.Writer g.F.Writer c.args.output.now c.write_given.new.output c.args.faults.now c.write_given.new.faults in
    ends_given (PlainBy NoThreads sub words) sub words (texts_of c.args.texts.now) to
    c.answer_by-plain.result c.write_given.result.ending c.answer_by-plain.ensures
    (subst (λ (shape : Option Shape). GivenAs (in_shape shape) c.answer_by-plain.result c.write_given.result.ending to) c.form_of-form.ensures c.write_given.ensures.ends)

pub returns-clause-found : goal.returns-clause-found
returns-clause-found g c =
    let output = c.args.output.now in
    subst (λ (shape : Option Shape). ShowsFound (in_shape shape) c.write_given.result.found c.write_given.result.ending (Sends g.W.Writer.contents g.W.Writer.wrote g.W.Writer.settled output c.write_given.new.output))
    c.form_of-form.ensures c.write_given.ensures.found
