use Rattle.std.proofs.Common.{subst, ◌∙◌, Some}
use Rattle.std.proofs.lemmas.Result.{err_from_is_err_and}
use Rattle.ir_model.specs.Topology.{Topology}
use Rattle.ir_plan.specs.Building.{FromRoot}
use Rattle.ir_core.specs.Meaning.{IsMade}
use Rattle.ir_core.proofs.Opens.{setting_is, plan_refused}
use Rattle.ir_core.proofs.world.World.open_by.Goals as goal

pub start-requires : goal.start-requires
start-requires g c =
    let opening = c.args.opening in
    setting_is opening c.in_ok-plan.plan (λ e is. c.in_default.not-Some e (c.open_refusal.ensures ∙ is))
    (subst (λ (net : Topology). IsMade (FromRoot opening.labels opening.root) opening.kind net (Some c.in_ok-plan.plan)) c.in-Ok.ensures c.in_ok-plan.ensures.made)

pub returns-in_err-plan-clause-refused : goal.returns-in_err-plan-clause-refused
returns-in_err-plan-clause-refused g c =
    let opening = c.args.opening in
    let no = err_from_is_err_and c.from_residual.result c.from_residual.ensures.1 in
    rw (no.1, no.2)
    (plan_refused opening (λ e is. c.in_default.not-Some e (c.open_refusal.ensures ∙ is)) _ c.in-Ok.ensures _ c.in_err-plan.ensures.refused)
