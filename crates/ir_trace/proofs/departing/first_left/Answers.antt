use Rattle.std.proofs.Common.{◌∙◌, sym, ap, arith, Some}
use Rattle.std.proofs.lemmas.Option.{slice_get-get_or}
use Rattle.ir_trace.specs.Row.{Segment}
use Rattle.ir_trace.proofs.Parts.{followed_more, left_told}
use Rattle.ir_trace.proofs.departing.first_left.Goals as goal

pub left_in-requires : goal.left_in-requires
left_in-requires c =
    let k = c.loop-k.k in
    c.requires k c.index-segments-k.result (slice_get-get_or c.args.segments.now k c.index-segments-k.result (omega arith) ∙ ap (λ (p : Segment). Some p) (sym c.index-segments-k.is))

pub returns-in-Some-clause-left : goal.returns-in-Some-clause-left
returns-in-Some-clause-left c =
    left_told c.args.plans.now c.args.dest c.args.source c.args.segments.now c.loop-k.k c.loop-k.at c.loop-k.above c.index-segments-k.result (omega arith) c.index-segments-k.is c.loop-k.invariant c.in-Some.left c.in-Some.ensures

pub loop-k-preserved : goal.loop-k-preserved
loop-k-preserved c =
    let followed = followed_more c.args.plans.now c.args.dest c.args.source c.args.segments.now c.loop-k.k c.loop-k.at c.loop-k.above c.index-segments-k.result (omega arith) c.index-segments-k.is c.loop-k.invariant c.in_default.ensures in
    let epoch = ap (λ (p : Segment). p.epoch) c.segment.view_is in
    rw (c.last_hop-at.ensures, epoch) followed
