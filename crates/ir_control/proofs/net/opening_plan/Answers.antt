use Rattle.std.proofs.Common.{subst}
use Rattle.ir_model.specs.Topology.{Topology}
use Rattle.ir_plan.specs.Building.{FromRoot, IsPlanBy}
use Rattle.std.proofs.lemmas.Result.{err_from_is_err_and}
use Rattle.ir_control.proofs.Unplanned.{first_refused}
use Rattle.ir_control.proofs.net.opening_plan.Goals as goal

pub returns-in_err-plan-clause-refused : goal.returns-in_err-plan-clause-refused
returns-in_err-plan-clause-refused g c =
    let opening = c.args.opening.now in
    let is = err_from_is_err_and c.from_residual.result c.from_residual.ensures.1 in
    rw (is.1, is.2)
    (first_refused opening.topology _ c.in-Ok.ensures opening.labels opening.root c.requires _ c.in_err-plan.ensures.refused)

pub returns-clause-made : goal.returns-clause-made
returns-clause-made g c =
    let opening = c.args.opening.now in
    subst (λ (net : Topology). IsPlanBy net opening.kind (FromRoot opening.labels opening.root) c.in_ok-plan.plan) c.in-Ok.ensures c.in_ok-plan.ensures.made
