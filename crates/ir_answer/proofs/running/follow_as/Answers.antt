use Rattle.std.proofs.Common.{ℕ, List, Option, refl, sym, subst}
use Rattle.std.specs.Global.{Vec}
use Rattle.ir_cli.specs.declared.notice.Notice.{Notice}
use Rattle.ir_cli.specs.declared.read.Source.{Source}
use Rattle.ir_cli.specs.Notices.{ShowsFound}
use Rattle.ir_cli.specs.Reading.{AreRead, IsUnread, texts_of}
use Rattle.ir_cli.specs.Told.{Sends}
use Rattle.ir_answer.specs.Asked.{sources_by, AnswersBy, NoThreads}
use Rattle.ir_answer.specs.Formed.{asked_form}
use Rattle.ir_answer.specs.Runs.{RunIo, io_of}
use Rattle.ir_answer.proofs.Runs.{given_up, ends_read}
use Rattle.ir_answer.proofs.running.follow_as.Goals as goal

pub returns-in-Ok-clause-ends : goal.returns-in-Ok-clause-ends
returns-in-Ok-clause-ends g c =
    let words = c.args.request.now.words.now in
    let sub = c.args.request.now.sub in
    let old = c.args.inputs.now in
    let new = c.read_inputs.new.inputs in
    let io : RunIo = io_of g.R.Reader g.W.Writer g.F.Writer old new c.args.output.now c.write_answer.new.output c.args.faults.now c.write_answer.new.faults in
    ends_read (AnswersBy NoThreads sub words) (texts_of c.as_slice.result.now) io.read
    (subst (λ (texts : List (Vec ℕ)). AreRead g.R.Reader.remaining g.R.Reader.gave old (texts_of texts) new) (sym c.as_slice.ensures.value) c.in-Ok.ensures.read)
    (io.stops (sources_by sub words)) io.written.out io.written.unused io.written.told
    c.write_answer.result.ending c.write_answer.ensures.ends

pub returns-in-Err-clause-ends : goal.returns-in-Err-clause-ends
returns-in-Err-clause-ends g c =
    let words = c.args.request.now.words.now in
    let sub = c.args.request.now.sub in
    let old = c.args.inputs.now in
    let new = c.read_inputs.new.inputs in
    let output = c.args.output.now in
    let io : RunIo = io_of g.R.Reader g.W.Writer g.F.Writer old new output output c.args.faults.now c.tell_unread.new.faults in
    given_up (AnswersBy NoThreads sub words) c.tell_unread.result.ending io.read (io.stops (sources_by sub words)) io.written.out io.written.unused io.written.told
    c.in-Err.unread.source c.in-Err.unread.why c.tell_unread.ensures.ends
    (subst (λ (sources : List Source). IsUnread g.R.Reader.remaining g.R.Reader.gave sources old new c.in-Err.unread.source c.in-Err.unread.why) c.sources_by.ensures c.in-Err.ensures.unread) refl

pub returns-in-Err-clause-found : goal.returns-in-Err-clause-found
returns-in-Err-clause-found g c =
    let output = c.args.output.now in
    subst (λ (found : Option Notice). ShowsFound (asked_form c.args.request.now.sub c.args.request.now.words.now) found c.tell_unread.result.ending (Sends g.W.Writer.contents g.W.Writer.wrote g.W.Writer.settled output output))
    (sym c.tell_unread.ensures.found) c.tell_unread.ensures.none
