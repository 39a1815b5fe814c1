use Rattle.std.proofs.Common.{List, [], Some, ◌∙◌, ap, arith, sym, subst}
use Rattle.std.proofs.lemmas.Option.{slice_get-get_or}
use Rattle.std.proofs.lemmas.List.{take_all}
use Rattle.ir_model.specs.Plan.{Plan}
use Rattle.ir_core.specs.declared.built.Install.{Install}
use Rattle.ir_trace.specs.Checked.{ArePlansOf}
use Rattle.ir_trace.proofs.Inspecting.{plans_more}
use Rattle.ir_trace.proofs.judging.plans_by.Goals as goal

pub loop-install-preserved : goal.loop-install-preserved
loop-install-preserved g c =
    rw c.in_ok-push.ensures.items (plans_more c.args.topology.now c.args.installs.now c.loop-install.install-index c.install-item.result c.loop-install.plans.items c.in_ok-plan_by.field-0 (omega arith) c.install-item.is c.loop-install.invariant c.in_ok-plan_by.ensures)

pub loop-install-init : goal.loop-install-init
loop-install-init g c = subst (λ (plans : List Plan). ArePlansOf c.args.topology.now [] plans) (sym c.in_ok-plans.ensures.items) tt

pub returns : goal.returns
returns g c =
    subst (λ (installs : List Install). ArePlansOf c.args.topology.now installs c.loop-install.plans.items)
    (take_all c.loop-install.install-index c.args.installs.now c.loop-install-test.false) c.loop-install.invariant

pub plan_by-requires-after_bounds : goal.plan_by-requires-after_bounds
plan_by-requires-after_bounds g c κs within =
    let now = c.install-item.result in
    c.requires c.loop-install.install-index now (slice_get-get_or c.args.installs.now c.loop-install.install-index now (omega (arith, c.loop-install-test.true)) ∙ ap Some (sym c.install-item.is))
