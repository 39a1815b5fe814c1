use Rattle.std.proofs.Common.{◌∙◌, sym, ap, length}
use Rattle.ir_graph.proofs.Views.{row_at-view, no_row_at-view, length-row_view}
use Rattle.ir_graph.proofs.by_place.neighbor_count.Goals as goal

pub returns-in-Some : goal.returns-in-Some
returns-in-Some c = c.len.ensures.len ∙ sym (ap length (row_at-view c.args.rows.now c.args.node _ c.in-Some.ensures.entry) ∙ length-row_view c.in-Some.row.now)

pub returns-in-None : goal.returns-in-None
returns-in-None c = sym (ap length (no_row_at-view c.args.rows.now c.args.node c.in-None.ensures.entry))
