use Rattle.std.proofs.Common.{◌<◌, ◌∙◌, sym, ap, subst, arith, bytes_eq, length, position}
use Rattle.ir_model.specs.Graph.{names}
use Rattle.ir_graph.specs.View.{rows_view}
use Rattle.ir_graph.proofs.Joined.{place_within}
use Rattle.ir_graph.proofs.Graph.index_of.Goals as goal

pub overflow_cast-result : goal.overflow_cast-result
overflow_cast-result c =
    let within = place_within (rows_view c.self.inside.rows) c.in-Some.place c.args.name.now c.in-Some.ensures.found in
    let few = c.self.invariant.node_limit in
    omega (arith, within, few)

pub returns-in-Some : goal.returns-in-Some
returns-in-Some c = record {
  place = c.in-Some.ensures.index ∙ ap (λ g. position (bytes_eq c.args.name.now) (names g)) c.self.view_is;
  within = subst (λ g. c.in-Some.place < length g) c.self.view_is (place_within (rows_view c.self.inside.rows) c.in-Some.place c.args.name.now c.in-Some.ensures.found);
}

pub returns-in-None : goal.returns-in-None
returns-in-None c = record {
  place = c.in-None.ensures.index ∙ ap (λ g. position (bytes_eq c.args.name.now) (names g)) c.self.view_is;
  within = tt;
}
