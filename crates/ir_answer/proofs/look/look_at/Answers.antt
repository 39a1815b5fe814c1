use Rattle.std.proofs.Common.{ℕ, List, length, subst}
use Rattle.std.proofs.lemmas.Result.{err_from_is_err_and}
use Rattle.ir_cli.specs.Answer.{Refused}
use Rattle.ir_cli.specs.Openings.{kind_asked}
use Rattle.ir_cli.specs.Reading.{texts_of}
use Rattle.ir_model.specs.declared.Kind.{Kind}
use Rattle.ir_answer.specs.Stops.{Gives}
use Rattle.ir_answer.specs.Looks.{order_in, AnswersShow, RefusesLabels, RefusesShow, LookAnswers}
use Rattle.ir_plan.specs.Building.{labelling_of}
use Rattle.ir_answer.proofs.Answering.{stops_more, gives_more}
use Rattle.ir_answer.proofs.Looking.{with_show, without_labels, without_show}
use Rattle.ir_answer.proofs.look.look_at.Goals as goal

pub returns-in_err-labels : goal.returns-in_err-labels
returns-in_err-labels g c =
    let w = c.args.words.now in
    let texts : List (List ℕ) = texts_of c.args.texts.now in
    let order = order_in c.look_texts.result.1 in
    let graph = c.in_ok-graph.graph in
    let is = err_from_is_err_and c.from_residual-in_err-labels.result c.from_residual-in_err-labels.ensures.1 in
    rw (is.1, is.2)
    (stops_more (RefusesLabels w order graph) (λ (line : List ℕ). LookAnswers c.args.sub w texts (Refused line))
    (without_labels c.args.sub w texts c.look_texts.result.0.now order c.look_texts.ensures.texts graph c.in_ok-graph.ensures.sound c.in_ok-graph.ensures.graph)
    _ c.in_err-labels.ensures.stop)

pub returns-in-Ok : goal.returns-in-Ok
returns-in-Ok g c =
    let look = c.args.sub in
    let w = c.args.words.now in
    let texts : List (List ℕ) = texts_of c.args.texts.now in
    let graph = c.in_ok-graph.graph in
    let labels = labelling_of c.in_ok-labels.labels in
    gives_more (AnswersShow (kind_asked w (length graph)) graph labels c.in-Ok.show) (LookAnswers look w texts)
    (with_show look w texts c.look_texts.result.0.now (order_in c.look_texts.result.1) c.look_texts.ensures.texts graph c.in_ok-graph.ensures.sound c.in_ok-graph.ensures.graph
    labels c.in_ok-labels.ensures.labels c.in-Ok.show c.in-Ok.ensures.show)
    c.show_read.result (subst (λ (kind : Kind). Gives (AnswersShow kind graph labels c.in-Ok.show) c.show_read.result) c.kind_over-kind.ensures c.show_read.ensures)

pub returns-in-Err : goal.returns-in-Err
returns-in-Err g c =
    let look = c.args.sub in
    let w = c.args.words.now in
    let texts : List (List ℕ) = texts_of c.args.texts.now in
    let graph = c.in_ok-graph.graph in
    let labels = labelling_of c.in_ok-labels.labels in
    stops_more (RefusesShow look w graph) (λ line. LookAnswers look w texts (Refused line))
    (without_show look w texts c.look_texts.result.0.now (order_in c.look_texts.result.1) c.look_texts.ensures.texts graph c.in_ok-graph.ensures.sound c.in_ok-graph.ensures.graph
    labels c.in_ok-labels.ensures.labels)
    c.in-Err.stop c.in-Err.ensures.stop
