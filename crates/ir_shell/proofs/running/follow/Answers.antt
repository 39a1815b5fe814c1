use Rattle.std.proofs.Common.{◌≡◌, ◌≢◌, sym, subst}
use denote.Enum.Bare.{same_true, same_false}
use Rattle.ir_cli.specs.contracts.words.Sub.{the_type}
use Rattle.ir_cli.specs.declared.words.Sub.{Sub}
use Rattle.ir_cli.specs.declared.words.Sub.TheVariants.{Live}
use Rattle.ir_cli.specs.Notices.{ShowsFound}
use Rattle.ir_cli.specs.Told.{Sends}
use Rattle.ir_answer.specs.Asked.{sources_by, AnswersBy, NoThreads}
use Rattle.ir_answer.specs.Formed.{asked_form}
use Rattle.ir_answer.specs.Runs.{RunIo, io_of, RunEndsAs}
use Rattle.ir_answer.proofs.Runs.{ends_as_more, without_live}
use Rattle.ir_shell.specs.Asked.{LiveAnswers}
use Rattle.ir_shell.proofs.running.follow.Goals as goal

pub returns-then-eq-clause-ends : goal.returns-then-eq-clause-ends
returns-then-eq-clause-ends g c =
    let words = c.args.words.now in
    let io : RunIo = io_of g.R.Reader g.W.Writer g.F.Writer c.args.inputs.now c.follow_live.new.inputs c.args.output.now c.follow_live.new.output c.args.faults.now c.follow_live.new.faults in
    let is : words.sub ≡ Live = same_true the_type tt _ _ (sym c.if-eq.ensures) in
    subst (λ (sub : Sub). RunEndsAs (LiveAnswers g.T.Moments g.T.Looks g.T.Starter c.args.team.now.rt.now) sub words c.follow_live.result.ending io) (sym is) c.follow_live.ensures.ends

pub returns-then-eq-clause-found : goal.returns-then-eq-clause-found
returns-then-eq-clause-found g c =
    let words = c.args.words.now in
    let is : words.sub ≡ Live = same_true the_type tt _ _ (sym c.if-eq.ensures) in
    subst (λ (sub : Sub). ShowsFound (asked_form sub words) c.follow_live.result.found c.follow_live.result.ending
    (Sends g.W.Writer.contents g.W.Writer.wrote g.W.Writer.settled c.args.output.now c.follow_live.new.output)) (sym is) c.follow_live.ensures.found

pub returns-else-eq-clause-ends : goal.returns-else-eq-clause-ends
returns-else-eq-clause-ends g c =
    let words = c.args.words.now in
    let live = LiveAnswers g.T.Moments g.T.Looks g.T.Starter c.args.team.now.rt.now in
    let io : RunIo = io_of g.R.Reader g.W.Writer g.F.Writer c.args.inputs.now c.follow_by.new.inputs c.args.output.now c.follow_by.new.output c.args.faults.now c.follow_by.new.faults in
    let other : words.sub ≢ Live = same_false the_type _ _ (sym c.if-eq.ensures) in
    ends_as_more (AnswersBy NoThreads words.sub words) (AnswersBy live words.sub words) (without_live live words.sub other words)
    io.read (io.stops (sources_by words.sub words)) io.written.out io.written.unused io.written.told
    c.follow_by.result.ending c.follow_by.ensures.ends
