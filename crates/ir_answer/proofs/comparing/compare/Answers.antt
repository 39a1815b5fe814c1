use Rattle.std.proofs.Common.{◌≡◌, ℕ, List, Some}
use Rattle.ir_model.specs.declared.Fault.{Fault}
use Rattle.ir_model.specs.Text.{lines}
use Rattle.ir_cli.specs.Answer.{Refused}
use Rattle.ir_cli.specs.Lines.{topology_line}
use Rattle.ir_cli.specs.Openings.{topology_fault, root_name, AnswersRoot}
use Rattle.ir_cli.specs.Reading.{texts_of}
use Rattle.ir_answer.specs.Compares.{AnswersComparison, CompareAnswers}
use Rattle.ir_answer.proofs.Answering.{stops_more, gives_more}
use Rattle.ir_answer.proofs.Comparisons.{by_graph, faulty}
use Rattle.ir_answer.proofs.comparing.compare.Goals as goal

pub returns-in-Ok : goal.returns-in-Ok
returns-in-Ok g c =
    let w = c.args.words.now in
    let texts : List (List ℕ) = texts_of c.args.texts.now in
    let graph = c.in-Ok.graph in
    gives_more (AnswersRoot graph (root_name w) (AnswersComparison graph)) (CompareAnswers w texts)
    (by_graph w texts c.one_text-text.result.now c.one_text-text.ensures graph c.in-Ok.ensures.sound c.in-Ok.ensures.graph)
    c.compare_graph.result c.compare_graph.ensures

pub returns-in-Err : goal.returns-in-Err
returns-in-Err g c =
    let w = c.args.words.now in
    let texts : List (List ℕ) = texts_of c.args.texts.now in
    let topology = c.one_text-text.result.now in
    stops_more (λ (line : List ℕ). (f : ℕ × Fault) × (topology_fault w.format (lines topology) ≡ Some f) × (line ≡ topology_line f)) (λ (line : List ℕ). CompareAnswers w texts (Refused line))
    (faulty w texts topology c.one_text-text.ensures) c.in-Err.stop c.in-Err.ensures.stop
