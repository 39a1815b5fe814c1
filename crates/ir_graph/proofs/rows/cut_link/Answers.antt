use Rattle.std.proofs.Common.{◌∙◌, ap}
use Rattle.ir_model.specs.Graph.{without}
use Rattle.ir_graph.specs.View.{rows_view, change_row}
use Rattle.ir_graph.proofs.Views.{length-change_row}
use Rattle.ir_graph.proofs.Joined.{place_within, cut-once, cut-both}
use Rattle.ir_graph.proofs.rows.cut_link.Goals as goal

pub cut_neighbor-requires : goal.cut_neighbor-requires
cut_neighbor-requires c = place_within (rows_view c.args.rows.now) c.in-Some.i c.args.u.now c.in-Some.ensures.found

pub cut_neighbor-requires-then-i-j : goal.cut_neighbor-requires-then-i-j
cut_neighbor-requires-then-i-j c = rw (c.cut_neighbor.ensures, length-change_row) (place_within (rows_view c.args.rows.now) c.in-Some-row_index.j c.args.v.now c.in-Some-row_index.ensures.found)

pub returns-then-i-j-clause-cut : goal.returns-then-i-j-clause-cut
returns-then-i-j-clause-cut c =
    c.cut_neighbor-then-i-j.ensures ∙ ap (λ h. change_row h c.in-Some-row_index.j (λ es. without es c.args.u.now)) c.cut_neighbor.ensures
    ∙ cut-both c.args.u.now c.args.v.now (rows_view c.args.rows.now) c.in-Some.i c.in-Some-row_index.j c.in-Some.ensures.differ c.in-Some.ensures.found c.in-Some-row_index.ensures.found c.if-i-j.true

pub returns-else-i-j-clause-cut : goal.returns-else-i-j-clause-cut
returns-else-i-j-clause-cut c =
    c.cut_neighbor.ensures
    ∙ cut-once c.args.u.now c.args.v.now (rows_view c.args.rows.now) c.in-Some.i c.in-Some-row_index.j c.in-Some.ensures.differ c.in-Some.ensures.found c.in-Some-row_index.ensures.found c.if-i-j.false
