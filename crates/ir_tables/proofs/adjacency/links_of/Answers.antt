use Rattle.std.proofs.Common.{◌≡◌, ◌++◌, ℕ, List, [], sym, ap, ◌∙◌, arith, take, get_or}
use Rattle.std.proofs.lemmas.List.{take_all}
use Rattle.ir_model.specs.declared.Link.{Link}
use Rattle.ir_model.specs.Graph.{Adjacency}
use Rattle.ir_model.specs.Places.{neighbors_at}
use Rattle.ir_tables.specs.Numbered.{Numbers, links_at, links_from}
use Rattle.ir_tables.specs.ByPlace.{row_numbers, neighbor_rows}
use Rattle.ir_tables.proofs.OfGraph.{row_of_node, length_rows}
use Rattle.ir_tables.proofs.Runs.{links_step}
use Rattle.ir_tables.proofs.adjacency.links_of.Goals as goal

pub loop-u-preserved : goal.loop-u-preserved
loop-u-preserved c =
    let g : Adjacency = c.args.graph.now in
    let u : ℕ = c.loop-u.u in
    let before : List Link = links_from 0 (take u (neighbor_rows g)) in
    let row : get_or (neighbor_rows g) u [] ≡ row_numbers g (neighbors_at g u) = row_of_node g u in
    let step = links_step (neighbor_rows g) u (omega (arith, length_rows g, c.number_of_nodes-u-end.ensures.len)) in
    c.in_ok-push_links.ensures ∙ ap (λ ls. ls ++ links_at u (row_numbers g (neighbors_at g u))) c.loop-u.invariant ∙ ap (λ (r : Numbers). before ++ links_at u r) (sym row) ∙ sym step

pub returns : goal.returns
returns c = let g : Adjacency = c.args.graph.now in
    c.loop-u.invariant ∙ ap (links_from 0) (take_all c.loop-u.u (neighbor_rows g) (omega (arith, length_rows g, c.number_of_nodes-u-end.ensures.len)))
