use Rattle.std.proofs.Common.{◌≤◌, ◌-◌, length, slice_index_or, sym, ap, ◌∙◌, subst, arith}
use Rattle.std.proofs.lemmas.List.{get_or_read}
use Rattle.ir_model.specs.Plan.{Plan}
use Rattle.ir_core.specs.Setting.{no_plan}
use Rattle.ir_core.specs.World.{World}
use Rattle.ir_core.specs.Meaning.{plan_of}
use Rattle.ir_core.proofs.world.World.plan_of.Goals as goal

pub returns : goal.returns
returns c =
    let plans = c.self.inside.plans.items in
    let within : c.args.epoch ≤ length plans = subst (λ (w : World). c.args.epoch ≤ length w.plans) (sym c.self.view_is) c.requires.within in
    get_or_read plans (c.args.epoch - 1) c.index.result.now (omega (arith, within, c.requires.above)) c.index.ensures (slice_index_or plans 0 no_plan) ∙ ap (λ (w : World). plan_of w.opening w.plans c.args.epoch) c.self.view_is
