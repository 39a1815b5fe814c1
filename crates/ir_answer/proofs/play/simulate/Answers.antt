use Rattle.std.proofs.Common.{ℕ, List}
use Rattle.ir_model.specs.Text.{lines}
use Rattle.ir_script.specs.Command.{line_step}
use Rattle.ir_cli.specs.Answer.{Refused}
use Rattle.ir_cli.specs.Openings.{AnswersTopology}
use Rattle.ir_answer.specs.Plays.{AnswersRun, AnswersScript, listing_in}
use Rattle.ir_answer.specs.Stops.{RefusesAsked}
use Rattle.ir_answer.proofs.Answering.{stops_more, of_refusal, gives_asked}
use Rattle.ir_answer.proofs.play.simulate.Goals as goal

pub returns-in-Ok : goal.returns-in-Ok
returns-in-Ok g c =
    let w = c.args.words.now in
    let asked = c.in-Ok.asked in
    gives_asked line_step w (lines c.args.topology.now) (lines c.args.script.now) (λ h. AnswersRun h w) asked.graph asked.topology (listing_in asked.script) asked.root
    c.in-Ok.ensures.asked c.play_asked.result c.play_asked.ensures

pub returns-in-Err : goal.returns-in-Err
returns-in-Err g c =
    let w = c.args.words.now in
    let topology = lines c.args.topology.now in
    let script = lines c.args.script.now in
    stops_more (RefusesAsked line_step w topology script) (λ (line : List ℕ). AnswersTopology w.format topology (AnswersScript w script) (Refused line))
    (of_refusal line_step w topology script (λ h. AnswersRun h w)) c.in-Err.stop c.in-Err.ensures.stop
