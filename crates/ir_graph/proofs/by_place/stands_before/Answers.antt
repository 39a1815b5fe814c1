use Rattle.std.proofs.Common.{◌≤◌, ◌∙◌, sym, ap, length, bytes_eq, nat_lt, ℕ, arith}
use Rattle.std.specs.List.{position_or_len}
use Rattle.std.proofs.lemmas.Bool.{le-ltb}
use Rattle.ir_model.specs.Graph.{names, Name, Neighbors}
use Rattle.std.proofs.lemmas.List.{length-map}
use Rattle.ir_graph.specs.View.{rows_view}
use Rattle.ir_graph.proofs.Places.{among-take, place_found, place_missing}
use Rattle.ir_graph.proofs.by_place.stands_before.Goals as goal

pub returns-in-Some : goal.returns-in-Some
returns-in-Some c =
    let ks = names (rows_view c.args.rows.now) in
    let within : c.args.node ≤ length ks = omega (arith, length-map (rows_view c.args.rows.now) (λ (r : Name × Neighbors). r.0), c.requires) in
    ap (λ (n : ℕ). nat_lt n c.args.node) (place_found ks c.args.name.now c.in-Some.place c.in-Some.ensures.index) ∙ sym (among-take ks c.args.name.now c.args.node within)

pub returns-in-None : goal.returns-in-None
returns-in-None c =
    let ks = names (rows_view c.args.rows.now) in
    let within : c.args.node ≤ length ks = omega (arith, length-map (rows_view c.args.rows.now) (λ (r : Name × Neighbors). r.0), c.requires) in
    let past : length ks ≤ position_or_len (bytes_eq c.args.name.now) ks = place_missing ks c.args.name.now c.in-None.ensures.index in
    sym (among-take ks c.args.name.now c.args.node within ∙ le-ltb (position_or_len (bytes_eq c.args.name.now) ks) c.args.node (omega arith))
