use Rattle.std.proofs.Common.{◌≡◌, ◌<◌, ◌∙◌, refl, sym, ap, subst, length, eq-eqb, arith, ◌↔◌, IsTrue, nat_eq}
use Rattle.std.proofs.lemmas.Bool.{eqb-true}
use Rattle.ir_model.specs.Graph.{IsGraph}
use Rattle.ir_graph.specs.View.{rows_view}
use Rattle.ir_graph.specs.Paths.{IsConnectedGraph}
use Rattle.ir_graph.proofs.Reaching.{connected_full, full_connected}
use Rattle.ir_graph.proofs.Graph.is_connected.Goals as goal

pub returns-in-Ok-clause-connected : goal.returns-in-Ok-clause-connected
returns-in-Ok-clause-connected c =
    let g = rows_view c.self.inside.rows in
    let graph : IsGraph g = subst IsGraph (sym c.self.view_is) c.number_of_nodes-nodes.ensures.graph in
    let nodes : c.number_of_nodes-nodes.result ≡ length g = c.number_of_nodes-nodes.ensures.len ∙ ap length (sym c.self.view_is) in
    let some : 0 < length g = omega arith in
    let places = c.in-Ok.reached.keys in
    subst (λ h. IsTrue (nat_eq c.len.result c.number_of_nodes-nodes.result) ↔ IsConnectedGraph h) c.self.view_is (
      (λ t. connected_full g graph places c.in-Ok.ensures.reached (sym c.len.ensures.len ∙ eqb-true c.len.result c.number_of_nodes-nodes.result t ∙ nodes)),
      (λ connected. eq-eqb c.len.result c.number_of_nodes-nodes.result (c.len.ensures.len ∙ full_connected g graph places c.in-Ok.ensures.reached c.in-Ok.ensures.closed c.in-Ok.ensures.first some connected ∙ sym nodes)),
    )

pub reached_from_first-requires : goal.reached_from_first-requires
reached_from_first-requires c =
    let nodes : c.number_of_nodes-nodes.result ≡ length (rows_view c.self.inside.rows) = c.number_of_nodes-nodes.ensures.len ∙ ap length (sym c.self.view_is) in
    let some = c.if-nodes-eq0.false in
    record {
      graph = subst IsGraph (sym c.self.view_is) c.number_of_nodes-nodes.ensures.graph;
      some = omega (arith, nodes, some);
    }

pub returns-then-nodes-eq0 : goal.returns-then-nodes-eq0
returns-then-nodes-eq0 c = record { connected = tt; some = tt; refused = (refl, sym c.number_of_nodes-nodes.ensures.len ∙ c.if-nodes-eq0.true) }

pub returns-in-Err : goal.returns-in-Err
returns-in-Err c =
    let count = c.number_of_nodes-nodes.ensures.len in
    let some = c.if-nodes-eq0.false in
    record { connected = tt; some = tt; refused = omega (arith, count, some) }

pub returns-in-Ok-clause-some : goal.returns-in-Ok-clause-some
returns-in-Ok-clause-some c =
    let count = c.number_of_nodes-nodes.ensures.len in
    let some = c.if-nodes-eq0.false in
    omega (arith, count, some)

pub returns-in-Ok-clause-refused : goal.returns-in-Ok-clause-refused
returns-in-Ok-clause-refused c = tt
