use Rattle.std.proofs.Common.{Ok, Err, inr, sym, subst, Result}
use Rattle.ir_model.specs.Topology.{Topology}
use Rattle.ir_trace.specs.declared.finding.Finding.{Finding}
use Rattle.ir_trace.specs.Checked.{Finds}
use Rattle.ir_trace.specs.Sound.{IsSoundTrace}
use Rattle.ir_trace.proofs.CheckedTrace.{sound_from, finding_from}
use Rattle.ir_answer.specs.Checks.{IsFinding, AnswersRows, AnswersTraceAsked, run_with}
use Rattle.ir_answer.proofs.Answering.{gives_more}
use Rattle.ir_answer.proofs.Replays.{of_rows, of_finding}
use Rattle.ir_answer.proofs.checking.answer_rows.Goals as goal

pub answer_clean-requires-clause-ids : goal.answer_clean-requires-clause-ids
answer_clean-requires-clause-ids c k row at = (c.in-Ok.ensures.fine k row at).new

pub returns-in-Ok : goal.returns-in-Ok
returns-in-Ok c trace installs is are =
    let w = c.args.words.now in
    let asked = c.args.asked.now in
    let rows = c.args.read.now in
    let run = run_with w asked.topology asked.script.steps.items in
    let fine : Result (Unit {0}) Finding = Ok tt in
    let sound : IsSoundTrace asked.topology installs rows = sound_from asked.topology installs c.args.plans.now are rows fine c.requires.rows c.in-Ok.ensures.fine in
    gives_more (AnswersRows w.whole run rows) (AnswersTraceAsked w.whole asked.graph trace installs run)
    (of_rows w.whole asked.graph trace installs run rows (is, subst (λ (n : Topology). IsSoundTrace n installs rows) c.requires.over sound)) c.answer_clean.result c.answer_clean.ensures

pub returns-in-Err : goal.returns-in-Err
returns-in-Err c trace installs is are =
    let w = c.args.words.now in
    let asked = c.args.asked.now in
    let rows = c.args.read.now in
    let run = run_with w asked.topology asked.script.steps.items in
    let f = c.in-Err.finding in
    let refused : Result (Unit {0}) Finding = Err f in
    let finds : Finds asked.topology installs rows f.line f.kind = finding_from asked.topology installs c.args.plans.now are rows refused c.in-Err.ensures.finding in
    gives_more (IsFinding f) (AnswersTraceAsked w.whole asked.graph trace installs run)
    (λ answer h. subst (AnswersTraceAsked w.whole asked.graph trace installs run) (sym h.1)
    (of_finding w.whole asked.graph trace installs run f h.0 (inr (rows, is, subst (λ (n : Topology). Finds n installs rows f.line f.kind) c.requires.over finds))))
    c.answer_finding.result c.answer_finding.ensures
