use Rattle.std.proofs.Common.{◌∙◌, ap, subst, length, sym, ◌<◌}
use Rattle.ir_core.specs.Sound.{last_of}
use Rattle.ir_trace.specs.Row.{Segment}
use Rattle.ir_trace.proofs.Inspecting.{last_at}
use Rattle.ir_trace.proofs.judging.last_hop.Goals as goal

pub returns : goal.returns
returns c =
    let same = c.as_slice-hops.ensures.value ∙ ap (λ (p : Segment). p.hops) c.segment.view_is in
    last_at c.as_slice-hops.result.now (subst (λ hops. 0 < length hops) (sym same) c.requires) ∙ ap last_of same
