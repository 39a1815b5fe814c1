use Rattle.std.proofs.Common.{◌∙◌, List, ap, sym, subst}
use Rattle.ir_core.specs.Record.{Record}
use Rattle.ir_trace.specs.Written.{HaveSegments}
use Rattle.ir_shell.specs.Lives.{refusals_text}
use Rattle.ir_shell.proofs.live.live_texts.Goals as goal

pub run_text-requires-clause-records : goal.run_text-requires-clause-records
run_text-requires-clause-records c =
    let P : List Record → Type 0 = λ records. HaveSegments c.args.topology.now records in subst P (sym c.as_slice-records.ensures.value) c.requires.records

pub returns-clause-told : goal.returns-clause-told
returns-clause-told c = c.in_ok-refused.ensures ∙ ap (refusals_text c.args.lines.now) c.as_slice-refusals.ensures.value
