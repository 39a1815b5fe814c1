use Rattle.std.proofs.Common.{inl}
use Rattle.ir_model.specs.Text.{lines}
use Rattle.ir_answer.specs.Diffs.{AnswersPlans, AnswersGraphs, AnswersDiff}
use Rattle.ir_answer.proofs.Answering.{gives_more}
use Rattle.ir_answer.proofs.Changed.{of_new}
use Rattle.ir_answer.proofs.diffing.diff_graph.Goals as goal

pub returns-in-Ok : goal.returns-in-Ok
returns-in-Ok g c =
    let words = c.args.words.now in
    let old = c.args.old_graph.now in
    let new = lines c.args.new.now in
    let graph = c.in_ok-new_graph.new_graph in
    gives_more (AnswersPlans words old graph) (AnswersDiff words new old)
    (λ answer holds. of_new words.new_format new (AnswersGraphs words old) graph answer c.in_ok-new_graph.ensures.sound c.in_ok-new_graph.ensures.graph (inl (c.in-Ok.ensures.same, holds)))
    c.diff_plans.result c.diff_plans.ensures
