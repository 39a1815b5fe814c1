use Rattle.std.proofs.Common.{◌∙◌, sym, ap, arith}
use Rattle.ir_model.specs.Interval.{PortInterval}
use Rattle.ir_model.specs.Row.{next_label}
use Rattle.ir_model.proofs.Rows.{get_or-intervals_until, end_inside, end_last}
use Rattle.ir_show.specs.WalkText.{no_interval}
use Rattle.ir_show.proofs.interval.end_of.Goals as goal

pub returns-then-i-count : goal.returns-then-i-count
returns-then-i-count c =
    let row = c.args.row.now in
    c.start.ensures ∙ sym (end_inside row c.args.i (omega (arith, c.if-i-count.true, c.len-count.ensures.len)))
    ∙ ap (λ (m : PortInterval). m.end) (sym (get_or-intervals_until (next_label row 0) row c.args.i no_interval c.requires))

pub returns-else-i-count : goal.returns-else-i-count
returns-else-i-count c =
    let row = c.args.row.now in
    c.start-else-i-count.ensures ∙ sym (end_last row c.args.i (omega (arith, c.if-i-count.false, c.len-count.ensures.len, c.requires)))
    ∙ ap (λ (m : PortInterval). m.end) (sym (get_or-intervals_until (next_label row 0) row c.args.i no_interval c.requires))
