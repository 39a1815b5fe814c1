use Rattle.std.proofs.Common.{inl, sym, subst}
use Rattle.ir_model.specs.Topology.{Topology, node_count}
use Rattle.ir_trace.specs.Checked.{AreRowsOver}
use Rattle.ir_answer.specs.Checks.{IsFinding, AnswersTraceAsked, run_with}
use Rattle.ir_answer.proofs.Answering.{gives_more}
use Rattle.ir_answer.proofs.Replays.{of_finding}
use Rattle.ir_answer.proofs.checking.answer_trace.Goals as goal

pub answer_rows-requires-clause-rows : goal.answer_rows-requires-clause-rows
answer_rows-requires-clause-rows c = subst (λ (n : Topology). AreRowsOver (node_count n) c.in-Ok.read) (sym c.requires.over) c.in-Ok.ensures.within

pub returns-in-Ok : goal.returns-in-Ok
returns-in-Ok c installs are = c.answer_rows.ensures c.args.trace.now installs c.in-Ok.ensures.read are

pub returns-in-Err : goal.returns-in-Err
returns-in-Err c installs are =
    let w = c.args.words.now in
    let asked = c.args.asked.now in
    let run = run_with w asked.topology asked.script.steps.items in
    let f = c.in-Err.finding in
    gives_more (IsFinding f) (AnswersTraceAsked w.whole asked.graph c.args.trace.now installs run)
    (λ answer h. subst (AnswersTraceAsked w.whole asked.graph c.args.trace.now installs run) (sym h.1)
    (of_finding w.whole asked.graph c.args.trace.now installs run f h.0 (inl c.in-Err.ensures.fault)))
    c.answer_finding.result c.answer_finding.ensures
