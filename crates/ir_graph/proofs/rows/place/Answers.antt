use Rattle.std.proofs.Common.{◌≡◌, ◌∙◌, ◌++◌, ◌∷◌, [], ℕ, Some, false, sym, ap, arith, cond, length, slice_get}
use Rattle.std.proofs.lemmas.Result.{err_from_is_err_and}
use Rattle.std.proofs.lemmas.List.{length-map, map-append}
use Rattle.ir_model.specs.Graph.{Name, Neighbors, Adjacency, names, has_node, with_node}
use Rattle.ir_graph.specs.View.{rows_view}
use Rattle.ir_graph.proofs.Views.{length-rows_view}
use Rattle.ir_graph.proofs.Edges.{slice_get-behind}
use Rattle.ir_graph.proofs.rows.place.Goals as goal

-- a node that is added is last
last_place : (g : Adjacency) (x : Name) (n : ℕ) → false ≡ has_node g x → n ≡ length g → slice_get (names (with_node g x)) n ≡ Some x
last_place g x n absent at =
    ap (λ b. slice_get (names (cond b g (g ++ (x, []) ∷ []))) n) (sym absent)
    ∙ ap (λ ns. slice_get ns n) (map-append (λ (r : Name × Neighbors). r.0) g ((x, []) ∷ []))
    ∙ slice_get-behind (names g) (x ∷ []) 0 n (omega (arith, length-map g (λ (r : Name × Neighbors). r.0), at))

pub add_row-requires : goal.add_row-requires
add_row-requires c = sym c.in-None.ensures.has

pub returns-in-Some : goal.returns-in-Some
returns-in-Some c =
    let g = rows_view c.args.rows.now in
    record {
      ok = ap (λ b. cond b g (g ++ (c.args.name.now, []) ∷ [])) c.in-Some.ensures.has;
      found = c.in-Some.ensures.found;
      differ = c.in-Some.ensures.differ;
      err = tt;
    }

pub returns-in_ok-add_row-in-None : goal.returns-in_ok-add_row-in-None
returns-in_ok-add_row-in-None c =
    let g = rows_view c.args.rows.now in
    let added = c.in_ok-add_row-in-None.ensures.ok in
    let at = c.len-i.ensures.len ∙ sym (length-rows_view c.args.rows.now) in
    record {
      ok = added;
      found = ap (λ h. slice_get (names h) c.len-i.result) added ∙ last_place g c.args.name.now c.len-i.result c.in-None.ensures.has at;
      differ = c.in_ok-add_row-in-None.ensures.differ;
      err = tt;
    }

pub returns-in_err-add_row-in-None : goal.returns-in_err-add_row-in-None
returns-in_err-add_row-in-None c =
    let is = (err_from_is_err_and c.from_residual.result c.from_residual.ensures.1).1 in
    record { ok = rw is tt; found = rw is tt; differ = rw is tt; err = rw is c.in_err-add_row-in-None.ensures.err }
