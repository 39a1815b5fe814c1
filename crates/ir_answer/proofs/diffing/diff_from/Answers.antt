use Rattle.std.proofs.Common.{rules, ◌≡◌, ℕ, List, Option, length, subst}
use Rattle.ir_model.specs.Graph.{names}
use Rattle.ir_plan.specs.Building.{labelling_of}
use Rattle.ir_cli.specs.Answer.{Refused}
use Rattle.ir_cli.specs.Lines.{new_opening_line}
use Rattle.ir_cli.specs.Openings.{kind_asked}
use Rattle.ir_answer.specs.Diffs.{order_kept, AnswersPlan, AnswersChange, AnswersOther}
use Rattle.ir_answer.specs.Looks.{order_in, IsLabelling}
use Rattle.ir_answer.proofs.Answering.{stops_more}
use Rattle.ir_answer.proofs.Changed.{without_plan}
use Rattle.ir_answer.proofs.Looking.{of_labels}
use Rattle.ir_answer.proofs.diffing.diff_from.Goals as goal

pub returns : goal.returns
returns g c =
    let words = c.args.words.now in
    let old = c.args.old_graph.now in
    let plan = c.args.old.now in
    let new = c.args.new_graph.now in
    let labels = labelling_of c.in_ok-labels.labels in
    let kind = kind_asked words (length new) in
    let order : Option (List ℕ) = order_kept words (names old) plan in
    let is : order_in c.match-order.text ≡ order = search rules in
    let labelled : IsLabelling words order new labels = subst (λ (o : Option (List ℕ)). IsLabelling words o new labels) is c.in_ok-labels.ensures.labels in
    stops_more (λ (line : List ℕ). AnswersPlan new_opening_line new kind labels (AnswersChange old plan new) (Refused line)) (λ (line : List ℕ). AnswersOther words old new plan (Refused line))
    (λ line answers. of_labels words order new (λ l. AnswersPlan new_opening_line new kind l (AnswersChange old plan new)) labels (Refused line) labelled answers)
    c.new_stop.result
    (without_plan new_opening_line new kind labels (AnswersChange old plan new) c.in-Err.error c.in-Err.ensures.refused c.new_stop.result c.new_stop.ensures)
