use Rattle.std.proofs.Common.{◌∙◌, length, sym, arith}
use Rattle.std.proofs.lemmas.Bool.{le-ltb}
use Rattle.ir_diff.proofs.Cuts.{absent, at_cut}
use Rattle.ir_diff.proofs.changes.is_start.Goals as goal

pub returns-then-place-row-clause-value : goal.returns-then-place-row-clause-value
returns-then-place-row-clause-value c = at_cut c.args.row.now c.requires.ascending c.args.start c.args.place c.requires.cut c.if-place-row.true

pub returns-else-place-row-clause-value : goal.returns-else-place-row-clause-value
returns-else-place-row-clause-value c =
    le-ltb c.args.place (length c.args.row.now) c.if-place-row.false
    ∙ sym (absent c.args.row.now c.requires.ascending c.args.start c.args.place c.requires.cut (λ lt. absurd (omega (arith, lt, c.if-place-row.false))))
