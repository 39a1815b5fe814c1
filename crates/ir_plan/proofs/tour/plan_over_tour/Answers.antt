use Rattle.std.proofs.Common.{◌∙◌, sym, subst}
use Rattle.ir_plan.specs.declared.tour.LabelOrder.TheVariants.{Tour}
use Rattle.ir_plan.specs.Tour.{IsTour}
use Rattle.ir_plan.specs.Starts.{IsLabelledBy, IsPlanAs}
use Rattle.ir_plan.proofs.Labelled.{first_labelled, over_labelled, no_tree_of_shortest_ways}
use Rattle.ir_plan.proofs.Lists.{of_some}
use Rattle.ir_plan.proofs.tour.plan_over_tour.Goals as goal

pub returns-clause-like : goal.returns-clause-like
returns-clause-like g c =
    of_some c.if_fewer.result _ (IsPlanAs c.args.plan.now) c.if_fewer.ensures.fewer
    (λ p fewer. subst (IsPlanAs c.args.plan.now) (sym fewer.0) c.in_ok-found.ensures.like)

pub returns-clause-found : goal.returns-clause-found
returns-clause-found g c =
    let plan = c.args.plan.now in
    let told = c.in_ok-found.ensures in
    let tour : IsTour plan.topology plan.root c.in_ok-found.found.order = subst (IsTour plan.topology plan.root) (sym (told.order ∙ c.in_ok-order.ensures.items)) c.requires.tour.tour in
    of_some c.if_fewer.result _ (IsLabelledBy Tour) c.if_fewer.ensures.fewer
    (λ p fewer.
    subst (IsLabelledBy Tour) (sym fewer.0)
    (over_labelled plan c.in_ok-found.found c.invariant.ensures.plan c.requires.first told.like tour Tour (λ e. cc e) (c.requires.kind, c.requires.few) fewer.1))

pub returns-clause-kept : goal.returns-clause-kept
returns-clause-kept g c none =
    let plan = c.args.plan.now in
    let told = c.in_ok-found.ensures in
    let tour : IsTour plan.topology plan.root c.in_ok-found.found.order = subst (IsTour plan.topology plan.root) (sym (told.order ∙ c.in_ok-order.ensures.items)) c.requires.tour.tour in
    first_labelled plan c.in_ok-found.found c.invariant.ensures.plan c.requires.first told.like tour Tour (c.if_fewer.ensures.others none)

pub plan_over-requires-clause-kind : goal.plan_over-requires-clause-kind
plan_over-requires-clause-kind g c κs within = no_tree_of_shortest_ways c.args.plan.now.kind c.requires.kind
