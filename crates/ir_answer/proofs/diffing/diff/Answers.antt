use Rattle.std.proofs.Common.{subst}
use Rattle.ir_model.specs.Graph.{Adjacency}
use Rattle.ir_model.specs.Text.{lines}
use Rattle.ir_cli.specs.Openings.{AnswersTopology}
use Rattle.ir_answer.specs.Diffs.{AnswersDiff}
use Rattle.ir_answer.proofs.Answering.{gives_more, of_graph}
use Rattle.ir_answer.proofs.diffing.diff.Goals as goal

pub returns-in-Ok : goal.returns-in-Ok
returns-in-Ok g c =
    let words = c.args.words.now in
    let old = lines c.args.old.now in
    let new = lines c.args.new.now in
    let graph = c.in-Ok.graph in
    gives_more (AnswersDiff words new graph) (AnswersTopology words.format old (AnswersDiff words new))
    (λ answer holds. of_graph words.format old (AnswersDiff words new) answer c.in-Ok.ensures.sound (subst (λ (h : Adjacency). AnswersDiff words new h answer) c.in-Ok.ensures.graph holds))
    c.diff_graph.result c.diff_graph.ensures
