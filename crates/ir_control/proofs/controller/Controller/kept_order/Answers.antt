use Rattle.std.proofs.Common.{◌≡◌, ◌∙◌, ℕ, List, Option, ap, sym, subst}
use Rattle.ir_model.specs.Plan.{Plan, IsPlan}
use Rattle.ir_model.specs.Topology.{Topology, node_count}
use Rattle.ir_plan.specs.Building.{MayLabel}
use Rattle.ir_core.specs.Drafts.{items_of, kept_order, labelling_by}
use Rattle.ir_core.proofs.Labelled.{may_keep}
use Rattle.ir_epochs.specs.declared.registry.Stamp.{Stamp}
use Rattle.ir_epochs.specs.declared.registry.Registry.{Registry}
use Rattle.ir_epochs.specs.Stamps.{IsOf, knows}
use Rattle.ir_epochs.proofs.Overs.{over_nodes}
use Rattle.ir_control.specs.Changes.{order_of}
use Rattle.ir_control.proofs.controller.Controller.kept_order.Goals as goal

pub plan-current-requires : goal.plan-current-requires
plan-current-requires g c =
    let own = c.args.self.now in
    subst (λ (r : Registry). IsOf r c.stamp-stamp.result) (sym c.deref.ensures) (c.stamp-stamp.ensures.registry ∙ own.registry_is ∙ own.of_registry)

pub returns-in-Ok-clause-kept : goal.returns-in-Ok-clause-kept
returns-in-Ok-clause-kept g c =
    c.in-Ok.ensures ∙ ap (λ (t : Plan). kept_order c.args.keeps c.args.kind t.order) c.plan-current.ensures ∙ ap (λ (o : Option Stamp). kept_order c.args.keeps c.args.kind (order_of o)) (sym c.stamp-stamp.ensures.last)

pub returns-in-Ok-clause-may : goal.returns-in-Ok-clause-may
returns-in-Ok-clause-may g c labels root =
    let own = c.args.self.now in
    let t = c.plan-current.result.now in
    let nodes = ap (λ (p : Plan). node_count p.topology) c.plan-current.ensures ∙ over_nodes _ _ c.stamp-stamp.ensures.over ∙ ap node_count own.topology_is in
    subst (λ (o : Option (List ℕ)). MayLabel (knows own.opening).topology c.args.kind (labelling_by labels root o)) (sym c.in-Ok.ensures)
    (may_keep (knows own.opening).topology t c.invariant.ensures.plan nodes labels root c.args.keeps c.args.kind)
