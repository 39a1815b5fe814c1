use Rattle.std.proofs.Common.{◌∙◌, ◌+◌, sym, ap, cond, length}
use Rattle.ir_model.specs.Graph.{has_node}
use Rattle.ir_model.proofs.Names.{same_names, bytes_eq-swap}
use Rattle.ir_graph.specs.View.{rows_view}
use Rattle.ir_graph.proofs.Views.{IsDistinct-view, length-rows_view}
use Rattle.ir_graph.proofs.Keeping.{length-with_same, length-with_two}
use Rattle.ir_graph.proofs.rows.len_with.Goals as goal

pub returns-then-eq-clause-len : goal.returns-then-eq-clause-len
returns-then-eq-clause-len c =
    let g = rows_view c.args.rows.now in
    ap (λ n. n + c.missing.result) (c.len.ensures.len ∙ sym (length-rows_view c.args.rows.now)) ∙ ap (λ n. length g + n) c.missing.ensures
    ∙ sym (length-with_same g c.args.u.now c.args.v.now (same_names c.args.u.now c.args.v.now (sym c.if-eq.ensures)))

pub returns-then-eq-clause-differ : goal.returns-then-eq-clause-differ
returns-then-eq-clause-differ c = IsDistinct-view c.args.rows.now.entries c.len.ensures.unique

pub returns-clause-len : goal.returns-clause-len
returns-clause-len c =
    let g = rows_view c.args.rows.now in
    ap (λ n. n + c.missing.result + c.missing-2.result) (c.len.ensures.len ∙ sym (length-rows_view c.args.rows.now)) ∙ ap (λ n. length g + n + c.missing-2.result) c.missing.ensures ∙ ap (λ n. length g + cond (has_node g c.args.u.now) 0 1 + n) c.missing-2.ensures
    ∙ sym (length-with_two g c.args.u.now c.args.v.now (bytes_eq-swap c.args.v.now c.args.u.now ∙ sym c.if-eq.ensures))

pub returns-clause-differ : goal.returns-clause-differ
returns-clause-differ c = IsDistinct-view c.args.rows.now.entries c.len.ensures.unique
