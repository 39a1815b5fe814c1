use Rattle.std.proofs.Common.{◌-◌, ◌∙◌, refl, sym, ap, subst, is_some}
use Rattle.ir_model.specs.Graph.{weight_of, without_edge}
use Rattle.ir_graph.specs.View.{rows_view}
use Rattle.ir_graph.specs.Kept.{IsKept}
use Rattle.ir_graph.proofs.Removing.{some_edge, kept-without_edge}
use Rattle.ir_graph.proofs.Graph.remove_edge.Goals as goal

pub overflow_sub-self : goal.overflow_sub-self
overflow_sub-self c = some_edge (rows_view c.self.inside.rows) c.self.inside.edge_count c.args.u.now c.args.v.now c.cut_link.ensures.differ (ap is_some (sym c.in-Some.ensures)) c.self.invariant

pub invariant_of-self : goal.invariant_of-self
invariant_of-self c =
    subst (λ g. IsKept g (c.self.inside.edge_count - 1)) (sym c.cut_link.ensures.cut)
    (kept-without_edge (rows_view c.self.inside.rows) c.self.inside.edge_count c.args.u.now c.args.v.now c.cut_link.ensures.differ (ap is_some (sym c.in-Some.ensures)) c.self.invariant)

pub cut_link-requires : goal.cut_link-requires
cut_link-requires c =
    let forth = ap is_some (sym c.in-Some.ensures) in
    record { forth = forth; back = ap is_some (c.self.invariant.both_ways c.args.v.now c.args.u.now) ∙ forth }

pub returns-in-None : goal.returns-in-None
returns-in-None c = record {
  ok = tt;
  removed = tt;
  refused = (refl, ap (λ g. weight_of g c.args.u.now c.args.v.now) (sym c.self.view_is) ∙ sym c.in-None.ensures);
  err = refl;
}

pub returns-in-Some : goal.returns-in-Some
returns-in-Some c = record {
  ok = ap (λ g. weight_of g c.args.u.now c.args.v.now) (sym c.self.view_is) ∙ sym c.in-Some.ensures;
  removed = c.cut_link.ensures.cut ∙ ap (λ g. without_edge g c.args.u.now c.args.v.now) c.self.view_is;
  refused = tt;
  err = tt;
}
