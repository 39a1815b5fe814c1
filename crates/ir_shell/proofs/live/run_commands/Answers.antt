use Rattle.std.proofs.Common.{ℕ, List}
use Rattle.ir_model.specs.Text.{lines}
use Rattle.ir_script.specs.Command.{line_command}
use Rattle.ir_cli.specs.Answer.{Refused}
use Rattle.ir_cli.specs.Openings.{AnswersTopology}
use Rattle.ir_shell.specs.Lives.{AnswersLive, AnswersLiveScript}
use Rattle.ir_answer.specs.Plays.{listing_in}
use Rattle.ir_answer.specs.Stops.{RefusesAsked}
use Rattle.ir_answer.proofs.Answering.{stops_more, of_refusal, gives_asked}
use Rattle.ir_shell.proofs.live.run_commands.Goals as goal

pub returns-in-Ok : goal.returns-in-Ok
returns-in-Ok g c =
    let w = c.args.words.now in
    let asked = c.in-Ok.asked in
    gives_asked line_command w (lines c.args.topology.now) (lines c.args.script.now) (λ h. AnswersLive g.T.Moments g.T.Looks g.T.Starter c.args.rt.now h w)
    asked.graph asked.topology (listing_in asked.script) asked.root c.in-Ok.ensures.asked c.run_asked.result c.run_asked.ensures

pub returns-in-Err : goal.returns-in-Err
returns-in-Err g c =
    let w = c.args.words.now in
    let topology = lines c.args.topology.now in
    let script = lines c.args.script.now in
    stops_more (RefusesAsked line_command w topology script)
    (λ (line : List ℕ). AnswersTopology w.format topology (AnswersLiveScript g.T.Moments g.T.Looks g.T.Starter c.args.rt.now w script) (Refused line))
    (of_refusal line_command w topology script (λ h. AnswersLive g.T.Moments g.T.Looks g.T.Starter c.args.rt.now h w)) c.in-Err.stop c.in-Err.ensures.stop
