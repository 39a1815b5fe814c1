use Rattle.std.proofs.Common.{◌∙◌, refl, ap, string_bytes, map}
use Rattle.std.proofs.lemmas.Result.{err_from_is_err_and}
use Rattle.ir_model.specs.Graph.{put}
use Rattle.ir_graph.specs.View.{row_view}
use Rattle.ir_graph.proofs.Views.{change_row-view, change_row-id, put-view}
use Rattle.ir_graph.proofs.rows.put_neighbor.Goals as goal

pub returns-in_err-insert-clause-err : goal.returns-in_err-insert-clause-err
returns-in_err-insert-clause-err c =
    let p = err_from_is_err_and c.from_residual-in_err-insert.result c.from_residual-in_err-insert.ensures.1 in
    rw p.1 (change_row-view c.args.rows.now.entries c.args.at c.index_mut-row.result.now c.insert.new.self (λ es. es) c.index_mut-row.ensures.value
    (ap (map (λ e. (string_bytes e.0, e.1))) c.in_err-insert.ensures.err) ∙ change_row-id _ _)

pub returns-clause-ok : goal.returns-clause-ok
returns-clause-ok c =
    change_row-view c.args.rows.now.entries c.args.at c.index_mut-row.result.now c.insert.new.self (λ es. put es c.args.name.now c.args.weight) c.index_mut-row.ensures.value
    (ap (map (λ e. (string_bytes e.0, e.1))) c.in_ok-insert.ensures.entries ∙ put-view c.index_mut-row.result.now.entries c.in_ok-key.key c.args.weight ∙ ap (λ y. put (row_view c.index_mut-row.result.now) y c.args.weight) c.in_ok-key.ensures.ok)

pub returns-in_err-key : goal.returns-in_err-key
returns-in_err-key c =
    let p = err_from_is_err_and c.from_residual.result c.from_residual.ensures.1 in
    record { ok = rw p.1 tt; err = rw p.1 refl }

pub returns-in_err-insert-clause-ok : goal.returns-in_err-insert-clause-ok
returns-in_err-insert-clause-ok c = rw (err_from_is_err_and c.from_residual-in_err-insert.result c.from_residual-in_err-insert.ensures.1).1 tt
