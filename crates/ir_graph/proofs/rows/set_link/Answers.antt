use Rattle.std.proofs.Common.{◌≡◌, ◌∙◌, sym, ap, subst, cond, true, is_some, bytes_eq, IfSome, slice_get}
use Rattle.std.specs.Map.{lookup}
use Rattle.ir_model.specs.Graph.{put}
use Rattle.ir_graph.specs.View.{rows_view, change_row}
use Rattle.ir_graph.proofs.Views.{length-change_row}
use Rattle.ir_graph.proofs.Joined.{row_at, place_within, joined-linked, slice_get-change_row, with_edge-there, has_node-weight_of}
use Rattle.std.proofs.lemmas.Bool.{ne_eqb, eq-eqb}
use Rattle.ir_graph.proofs.rows.set_link.Goals as goal

pub set_neighbor-requires-clause-there : goal.set_neighbor-requires-clause-there
set_neighbor-requires-clause-there c =
    row_at (rows_view c.args.rows.now) c.in-Some.i c.args.u.now c.in-Some.ensures.differ c.in-Some.ensures.found (λ es. is_some (lookup (bytes_eq c.args.v.now) es) ≡ true) c.requires.forth

pub set_neighbor-requires-clause-within : goal.set_neighbor-requires-clause-within
set_neighbor-requires-clause-within c = place_within (rows_view c.args.rows.now) c.in-Some.i c.args.u.now c.in-Some.ensures.found

pub set_neighbor-requires-then-i-j-clause-there : goal.set_neighbor-requires-then-i-j-clause-there
set_neighbor-requires-then-i-j-clause-there c =
    subst (λ o. IfSome o (λ r. is_some (lookup (bytes_eq c.args.u.now) r.1) ≡ true))
    (sym (ap (λ g. slice_get g c.in-Some-row_index.j) c.set_neighbor.ensures ∙ slice_get-change_row (rows_view c.args.rows.now) c.in-Some.i c.in-Some-row_index.j (λ es. put es c.args.v.now c.args.weight) (ne_eqb _ _ c.if-i-j.true)))
    (row_at (rows_view c.args.rows.now) c.in-Some-row_index.j c.args.v.now c.in-Some.ensures.differ c.in-Some-row_index.ensures.found (λ es. is_some (lookup (bytes_eq c.args.u.now) es) ≡ true) c.requires.back)

pub set_neighbor-requires-then-i-j-clause-within : goal.set_neighbor-requires-then-i-j-clause-within
set_neighbor-requires-then-i-j-clause-within c =
    rw (c.set_neighbor.ensures, length-change_row) (place_within (rows_view c.args.rows.now) c.in-Some-row_index.j c.args.v.now c.in-Some-row_index.ensures.found)

pub returns-then-i-j-clause-set : goal.returns-then-i-j-clause-set
returns-then-i-j-clause-set c =
    let g = rows_view c.args.rows.now in
    let i = c.in-Some.i in
    let j = c.in-Some-row_index.j in
    let u = c.args.u.now in
    let v = c.args.v.now in
    let w = c.args.weight in
    let half = change_row g i (λ es. put es v w) in
    c.set_neighbor-then-i-j.ensures ∙ ap (λ h. change_row h j (λ es. put es u w)) c.set_neighbor.ensures
    ∙ sym (ap (λ b. cond b half (change_row half j (λ es. put es u w))) (ne_eqb i j c.if-i-j.true))
    ∙ joined-linked u v w g i j c.in-Some.ensures.differ c.in-Some.ensures.found c.in-Some-row_index.ensures.found
    ∙ sym (with_edge-there g u v w (has_node-weight_of g u v c.requires.forth) (has_node-weight_of g v u c.requires.back))

pub returns-else-i-j-clause-set : goal.returns-else-i-j-clause-set
returns-else-i-j-clause-set c =
    let g = rows_view c.args.rows.now in
    let i = c.in-Some.i in
    let j = c.in-Some-row_index.j in
    let u = c.args.u.now in
    let v = c.args.v.now in
    let w = c.args.weight in
    let half = change_row g i (λ es. put es v w) in
    c.set_neighbor.ensures
    ∙ sym (ap (λ b. cond b half (change_row half j (λ es. put es u w))) (eq-eqb i j c.if-i-j.false))
    ∙ joined-linked u v w g i j c.in-Some.ensures.differ c.in-Some.ensures.found c.in-Some-row_index.ensures.found
    ∙ sym (with_edge-there g u v w (has_node-weight_of g u v c.requires.forth) (has_node-weight_of g v u c.requires.back))

pub returns-in_default-clause-differ : goal.returns-in_default-clause-differ
returns-in_default-clause-differ c = c.row_index.ensures.differ

pub returns-then-i-j-clause-differ : goal.returns-then-i-j-clause-differ
returns-then-i-j-clause-differ c = c.row_index.ensures.differ

pub returns-else-i-j-clause-differ : goal.returns-else-i-j-clause-differ
returns-else-i-j-clause-differ c = c.row_index.ensures.differ
