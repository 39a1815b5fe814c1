use Rattle.std.proofs.Common.{◌∙◌, ap, slice_get}
use Rattle.std.proofs.lemmas.Option.{IfSome_then}
use Rattle.ir_model.specs.Graph.{without}
use Rattle.ir_graph.specs.View.{rows_view, change_row}
use Rattle.ir_graph.proofs.Views.{length-change_row, change_row-twice, change_row-same, without-put}
use Rattle.ir_graph.proofs.rows.join_rows.Goals as goal

pub put_neighbor-requires-2 : goal.put_neighbor-requires-2
put_neighbor-requires-2 c = rw (c.in_ok-put_neighbor.ensures.ok, length-change_row) c.requires.second

pub cut_neighbor-requires : goal.cut_neighbor-requires
cut_neighbor-requires c = rw (c.in-Err.ensures.err, c.in_ok-put_neighbor.ensures.ok, length-change_row) c.requires.first

pub returns-clause-err : goal.returns-clause-err
returns-clause-err c =
    c.cut_neighbor.ensures ∙ ap (λ g. change_row g c.args.places.0 (λ es. without es c.args.v.now)) (c.in-Err.ensures.err ∙ c.in_ok-put_neighbor.ensures.ok)
    ∙ change_row-twice (rows_view c.args.rows.now) c.args.places.0 _ _
    ∙ change_row-same _ _ _ (IfSome_then (slice_get (rows_view c.args.rows.now) c.args.places.0) c.requires.apart (λ r h. without-put r.1 c.args.v.now c.args.weight h))
