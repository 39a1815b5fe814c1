use Rattle.std.proofs.Common.{List, ap, refl, subst}
use Rattle.ir_core.specs.declared.event.Step.{Step}
use Rattle.ir_whole.specs.Whole.{AreWhole}
use Rattle.ir_cli.specs.Lines.{ok_line}
use Rattle.ir_answer.specs.Checks.{run_with}
use Rattle.ir_answer.proofs.checking.answer_clean.Goals as goal

pub returns-in-Ok : goal.returns-in-Ok
returns-in-Ok c =
    let w = c.args.words.now in
    let network = c.args.asked.now.topology in
    let rows = c.args.read.now in
    (λ asked. subst (λ (steps : List Step). AreWhole (run_with w network steps) rows) c.steps.ensures.steps (c.in-Ok.ensures.whole asked), ap ok_line c.rows.ensures, refl)
