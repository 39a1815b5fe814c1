use Rattle.std.proofs.Common.{◌≡◌, ◌++◌, ◌∷◌, [], ℕ, List, length, sym, ap, subst, ◌∙◌, arith, take}
use Rattle.ir_model.specs.declared.Link.{Link}
use Rattle.ir_model.specs.declared.Hop.{Hop}
use Rattle.ir_model.specs.Graph.{Adjacency}
use Rattle.ir_model.specs.Topology.{Topology, IsTopology}
use Rattle.ir_model.specs.Places.{neighbors_at}
use Rattle.ir_tables.specs.Numbered.{AreLinkKeys, ports_at, ports_from}
use Rattle.ir_tables.specs.ByPlace.{row_numbers, neighbor_rows}
use Rattle.ir_tables.proofs.OfGraph.{graph_few, graph_topology, graph_made, ports_step, ports_whole}
use Rattle.ir_tables.proofs.topology.Topology.of.Goals as goal

pub ports_of-requires-clause-few : goal.ports_of-requires-clause-few
ports_of-requires-clause-few c =
    omega (arith, ap length c.as_slice-in-loop-u.ensures.value, ap length c.in_ok-links.ensures, graph_few c.args.graph.now c.number_of_nodes-nodes.ensures.graph)

pub loop-u-preserved : goal.loop-u-preserved
loop-u-preserved c =
    let g : Adjacency = c.args.graph.now in
    let u : ℕ = c.loop-u.u in
    let links : List Link = c.in_ok-links.links.items in
    let row : List Hop = c.in_ok-row.row.items in
    let step = ports_step g links u (omega (arith, c.number_of_nodes-nodes.ensures.len)) in
    let here : row ≡ ports_at links u (row_numbers g (neighbors_at g u)) = c.in_ok-row.ensures ∙ ap (λ ls. ports_at ls u (row_numbers g (neighbors_at g u))) c.as_slice-in-loop-u.ensures.value in
    c.in_ok-ports-2.ensures
    ∙ ap (λ x. c.loop-u.ports ++ x ∷ []) c.as_slice-in-loop-u-3.ensures.value
    ∙ ap (λ xs. xs ++ row ∷ []) c.loop-u.invariant
    ∙ ap (λ x. take u (ports_from links 0 (neighbor_rows g)) ++ x ∷ []) here
    ∙ sym step

pub invariant_of-result : goal.invariant_of-result
invariant_of-result c =
    let g : Adjacency = c.args.graph.now in
    let links : List Link = c.in_ok-links.links.items in
    let ports = c.loop-u.invariant ∙ ports_whole g links c.loop-u.u (omega (arith, c.number_of_nodes-nodes.ensures.len)) in
    let made = graph_made g c.number_of_nodes-nodes.ensures.graph links c.loop-u.ports c.in_ok-links.ensures ports in
    let P : Topology → Type 0 = λ net. IsTopology net in
    subst P (sym made) (graph_topology g c.number_of_nodes-nodes.ensures.graph)

pub returns : goal.returns
returns c =
    let g : Adjacency = c.args.graph.now in
    let links : List Link = c.in_ok-links.links.items in
    let ports = c.loop-u.invariant ∙ ports_whole g links c.loop-u.u (omega (arith, c.number_of_nodes-nodes.ensures.len)) in
    graph_made g c.number_of_nodes-nodes.ensures.graph links c.loop-u.ports c.in_ok-links.ensures ports

pub ports_of-requires-clause-keys : goal.ports_of-requires-clause-keys
ports_of-requires-clause-keys c =
    let keys = subst (λ (ks : List ℕ). AreLinkKeys c.as_slice.result.now ks) (sym c.as_slice-in-loop-u-2.ensures.value) c.in_ok-keys.ensures in
    subst (λ (ls : List Link). AreLinkKeys ls c.as_slice-in-loop-u-2.result.now) (c.as_slice.ensures.value ∙ sym c.as_slice-in-loop-u.ensures.value) keys
