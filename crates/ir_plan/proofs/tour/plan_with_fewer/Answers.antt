use Rattle.std.proofs.Common.{rules, ◌≡◌, ◌≢◌, Option, refl, sym, subst, arith}
use Rattle.std.specs.Prelude.{IfOk, IfSome, None}
use Rattle.ir_model.specs.Plan.{Plan}
use Rattle.ir_plan.specs.declared.tour.LabelOrder.{LabelOrder}
use Rattle.ir_plan.specs.declared.tour.LabelOrder.TheVariants.{DepthFirst, Tour}
use Rattle.ir_plan.specs.Starts.{IsLabelledBy, IsOfShortestWays}
use Rattle.ir_plan.proofs.tour.plan_with_fewer.Goals as goal

-- the other order
by_tour : (labels : LabelOrder) → labels ≢ DepthFirst → labels ≡ Tour
by_tour DepthFirst other = absurd (other refl)
by_tour Tour other = refl

pub returns-clause-found : goal.returns-clause-found
returns-clause-found g c =
    let by : c.args.labels ≢ DepthFirst = search rules in
    subst (λ (labels : LabelOrder). IfOk c.plan_over_tour.result (λ (found : Option Plan). IfSome found (IsLabelledBy labels))) (sym (by_tour c.args.labels by)) c.plan_over_tour.ensures.found

pub returns-clause-kept : goal.returns-clause-kept
returns-clause-kept g c =
    let by : c.args.labels ≢ DepthFirst = search rules in
    subst (λ (labels : LabelOrder). IfOk c.plan_over_tour.result (λ (found : Option Plan). found ≡ None → IsLabelledBy labels c.args.plan.now)) (sym (by_tour c.args.labels by)) c.plan_over_tour.ensures.kept

pub plan_over_tour-requires-clause-kind : goal.plan_over_tour-requires-clause-kind
plan_over_tour-requires-clause-kind g c κs within =
    subst IsOfShortestWays c.kind.ensures (c.is_of_shortest_ways.ensures.0 c.if-not-is_of_shortest_ways.false)

pub plan_over_tour-requires-clause-few : goal.plan_over_tour-requires-clause-few
plan_over_tour-requires-clause-few g c κs within =
    let few = c.if-nodes-gt-MOST_TOUR_NODES.false in
    let count = c.nodes.ensures.count in
    omega (arith, few, count)
