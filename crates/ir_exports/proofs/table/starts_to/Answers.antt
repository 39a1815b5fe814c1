use Rattle.std.proofs.Common.{sym, arith, ◌∙◌}
use Rattle.ir_exports.proofs.RowStarts.{one_starts, none_starts}
use Rattle.ir_exports.proofs.table.starts_to.Goals as goal
use Rattle.ir_exports.proofs.table.starts_to.Goals.{else-below-len-via-then-below-len+else-start-label, else-below-len-via-else-below-len}

pub returns-then-start-label : goal.returns-then-start-label
returns-then-start-label c = let len = c.len.ensures.len in one_starts c.args.row.now c.args.label c.args.below c.requires (omega arith) (sym c.start.ensures ∙ c.if-start-label.true) c.len.ensures.ascending

pub returns-else-below-len : goal.returns-else-below-len
returns-else-below-len c =
    none_starts c.args.row.now c.args.label c.args.below c.requires
    (elim c.else-below-len.branch [
      | else-below-len-via-then-below-len+else-start-label w ↦ λ inside e. w.if-start-label.false (w.start.ensures ∙ e)
      | else-below-len-via-else-below-len w ↦ λ inside e. let len = c.len.ensures.len in let past = w.if-below-len.false in absurd (omega (arith, past))
    ])
    c.len.ensures.ascending
