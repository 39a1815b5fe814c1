use Rattle.std.proofs.Common.{◌∙◌, sym, ap, length}
use Rattle.ir_graph.proofs.Views.{neighbors-view, no_neighbors-view, length-row_view}
use Rattle.ir_graph.proofs.rows.row_len.Goals as goal

pub returns-in-Some-clause-len : goal.returns-in-Some-clause-len
returns-in-Some-clause-len c = c.len.ensures.len ∙ sym (ap length (neighbors-view c.args.rows.now c.args.name.now c.in-Some.row.now c.in-Some.ensures.value) ∙ length-row_view c.in-Some.row.now)

pub returns-in-None-clause-len : goal.returns-in-None-clause-len
returns-in-None-clause-len c = sym (ap length (no_neighbors-view c.args.rows.now c.args.name.now c.in-None.ensures.value))
