use Rattle.std.proofs.Common.{◌≡◌, ◌∙◌, sym, ap, subst, arith, slice_get, Some, bytes_eq, length, take}
use Rattle.std.specs.Map.{lookup}
use Rattle.ir_model.specs.Graph.{names, weight_of, with_node, linked}
use Rattle.ir_model.proofs.Graphs.{each_row, neighbors-with_node}
use Rattle.ir_graph.specs.View.{rows_view}
use Rattle.ir_graph.proofs.Joined.{apart_at, joined-linked, place-with_node, place_within}
use Rattle.std.proofs.lemmas.List.{take_all}
use Rattle.std.proofs.lemmas.Result.{on_err_weaker, on_ok_weaker, err_from_is_err_and}
use Rattle.ir_graph.proofs.Longer.{take-with_node, take-with_two}
use Rattle.ir_graph.proofs.rows.extend_link.Goals as goal

pub join_rows-requires-clause-apart : goal.join_rows-requires-clause-apart
join_rows-requires-clause-apart c =
    let u = c.args.u.now in
    let v = c.args.v.now in
    let at_u = subst (λ g. slice_get (names g) c.in_ok-i.i ≡ Some u) (sym c.in_ok-j.ensures.ok) (place-with_node (rows_view c.place.new.rows) v u c.in_ok-i.i c.in_ok-i.ensures.found) in
    apart_at (rows_view c.place-2.new.rows) c.in_ok-i.i u v c.in_ok-j.ensures.differ at_u
    (ap (λ g. weight_of g u v) (c.in_ok-j.ensures.ok ∙ ap (λ g. with_node g v) c.in_ok-i.ensures.ok)
    ∙ ap (lookup (bytes_eq v)) (neighbors-with_node (with_node (rows_view c.args.rows.now) u) v u ∙ neighbors-with_node (rows_view c.args.rows.now) u u)
    ∙ c.requires.apart)

pub returns-clause-ok : goal.returns-clause-ok
returns-clause-ok c =
    let u = c.args.u.now in
    let v = c.args.v.now in
    let at_u = subst (λ g. slice_get (names g) c.in_ok-i.i ≡ Some u) (sym c.in_ok-j.ensures.ok) (place-with_node (rows_view c.place.new.rows) v u c.in_ok-i.i c.in_ok-i.ensures.found) in
    let whole = joined-linked u v c.args.weight (rows_view c.place-2.new.rows) c.in_ok-i.i c.in_ok-j.j c.in_ok-j.ensures.differ at_u c.in_ok-j.ensures.found
    ∙ ap (each_row (linked u v c.args.weight)) (c.in_ok-j.ensures.ok ∙ ap (λ g. with_node g v) c.in_ok-i.ensures.ok) in
    on_ok_weaker c.join_rows.result (λ e. e ∙ whole) c.join_rows.ensures.ok

pub returns-clause-err : goal.returns-clause-err
returns-clause-err c =
    let g = rows_view c.args.rows.now in
    on_err_weaker c.join_rows.result (λ e. ap (take (length g)) (e ∙ c.in_ok-j.ensures.ok ∙ ap (λ h. with_node h c.args.v.now) c.in_ok-i.ensures.ok) ∙ take-with_two g c.args.u.now c.args.v.now) c.join_rows.ensures.err

pub returns-in_err-i : goal.returns-in_err-i
returns-in_err-i c =
    let g = rows_view c.args.rows.now in
    let p = err_from_is_err_and c.from_residual.result c.from_residual.ensures.1 in
    record { ok = rw p.1 tt; err = rw p.1 (ap (take (length g)) c.in_err-i.ensures.err ∙ take_all (length g) g (omega arith)) }

pub returns-in_err-j : goal.returns-in_err-j
returns-in_err-j c =
    let g = rows_view c.args.rows.now in
    let p = err_from_is_err_and c.from_residual-in_err-j.result c.from_residual-in_err-j.ensures.1 in
    let same = c.in_err-j.ensures.err ∙ c.in_ok-i.ensures.ok in
    record {
      ok = rw p.1 tt;
      err = rw p.1 (ap (take (length g)) same ∙ take-with_node (length g) g c.args.u.now (omega arith) ∙ take_all (length g) g (omega arith));
    }

pub join_rows-requires-clause-first : goal.join_rows-requires-clause-first
join_rows-requires-clause-first c =
    let u = c.args.u.now in
    let at_u = subst (λ g. slice_get (names g) c.in_ok-i.i ≡ Some u) (sym c.in_ok-j.ensures.ok) (place-with_node (rows_view c.place.new.rows) c.args.v.now u c.in_ok-i.i c.in_ok-i.ensures.found) in
    place_within (rows_view c.place-2.new.rows) c.in_ok-i.i u at_u

pub join_rows-requires-clause-second : goal.join_rows-requires-clause-second
join_rows-requires-clause-second c = place_within (rows_view c.place-2.new.rows) c.in_ok-j.j c.args.v.now c.in_ok-j.ensures.found
