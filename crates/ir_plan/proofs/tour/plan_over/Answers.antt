use Rattle.std.proofs.Common.{◌∙◌, ℕ, List, ap, sym, subst}
use Rattle.std.specs.Prelude.{slice_index}
use Rattle.std.proofs.lemmas.Result.{err_from_is_err_and}
use Rattle.ir_model.specs.Topology.{Topology, node_count}
use Rattle.ir_numbering.specs.Numbering.{IsListing}
use Rattle.ir_plan.proofs.tour.plan_over.Goals as goal

pub listed_plan-requires-clause-kind : goal.listed_plan-requires-clause-kind
listed_plan-requires-clause-kind g c = λ κs lives tree. c.requires.kind (sym c.kind.ensures ∙ tree)

pub listed_plan-requires-clause-list : goal.listed_plan-requires-clause-list
listed_plan-requires-clause-list g c = λ κs lives.
    subst (λ (net : Topology). IsListing (node_count net) c.args.order.items) (sym (c.in_ok-topology.ensures ∙ c.topology.ensures)) c.requires.order

pub returns-in_err-topology : goal.returns-in_err-topology
returns-in_err-topology g c =
    let is = (err_from_is_err_and c.from_residual.result c.from_residual.ensures.1).1 in
    record { like = rw is tt; order = rw is tt }

pub returns-in-Ok : goal.returns-in-Ok
returns-in-Ok g c =
    let made = c.in-Ok.ensures.made in
    record {
      like = record {
        plan = made.valid;
        kind = made.of_kind ∙ c.kind.ensures;
        root = sym made.valid.first ∙ ap (λ (order : List ℕ). slice_index order 0) made.labelled ∙ c.requires.root;
        topology = made.over ∙ c.in_ok-topology.ensures ∙ c.topology.ensures;
      };
      order = made.labelled;
    }
