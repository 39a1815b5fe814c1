use Rattle.std.proofs.Common.{◌≡◌, ◌∙◌, ℕ, Some, sym, ap, true, true≢false, option_map}
use Rattle.ir_model.specs.Graph.{Name, has_node, names}
use Rattle.ir_model.specs.Places.{place_of}
use Rattle.ir_graph.specs.View.{rows_view}
use Rattle.ir_graph.proofs.Joined.{place_within}
use Rattle.ir_graph.proofs.Places.{neighbor_is_node, place_found}
use Rattle.ir_graph.proofs.by_place.neighbor_at.Goals as goal

pub returns-in_err-neighbor-clause-at : goal.returns-in_err-neighbor-clause-at
returns-in_err-neighbor-clause-at c =
    let there : has_node (rows_view c.args.rows.now) c.in_ok-name.name.now ≡ true =
    neighbor_is_node (rows_view c.args.rows.now) c.in_err-neighbor.ensures.differ c.requires c.args.node c.args.place (c.in_ok-name.name.now, c.in_ok-name.weight) (sym c.in_ok-name.ensures) in
    absurd (true≢false (sym there ∙ sym c.in_err-neighbor.ensures.has))

pub returns-clause-at : goal.returns-clause-at
returns-clause-at c =
    let g = rows_view c.args.rows.now in
    ap (λ (i : ℕ). Some (i, c.in_ok-name.weight)) (place_found (names g) c.in_ok-name.name.now c.in_ok-neighbor.neighbor c.in_ok-neighbor.ensures.index)
    ∙ ap (option_map {U = ℕ × ℕ} (λ (e : Name × ℕ). (place_of g e.0, e.1))) c.in_ok-name.ensures

pub returns-clause-within : goal.returns-clause-within
returns-clause-within c = place_within (rows_view c.args.rows.now) c.in_ok-neighbor.neighbor c.in_ok-name.name.now c.in_ok-neighbor.ensures.found

pub returns-in_err-name : goal.returns-in_err-name
returns-in_err-name c =
    let g = rows_view c.args.rows.now in
    record {
      at = c.from_residual.ensures ∙ ap (option_map {U = ℕ × ℕ} (λ (e : Name × ℕ). (place_of g e.0, e.1))) c.in_err-name.ensures;
      within = rw c.from_residual.ensures tt;
    }

pub returns-in_err-neighbor-clause-within : goal.returns-in_err-neighbor-clause-within
returns-in_err-neighbor-clause-within c = rw c.from_residual-in_err-neighbor.ensures tt
