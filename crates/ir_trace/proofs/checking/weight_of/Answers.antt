use Rattle.std.proofs.Common.{◌≡◌, ◌∙◌, ◌+◌, ℕ, List, take, ap, sym, arith}
use Rattle.std.proofs.lemmas.List.Sums.{sum_by_more}
use Rattle.ir_model.specs.Topology.{Topology}
use Rattle.ir_model.specs.Walk.{walk_weight}
use Rattle.ir_trace.specs.Row.{Segment}
use Rattle.ir_trace.specs.Inspect.{segments_weight}
use Rattle.ir_trace.proofs.checking.weight_of.Goals as goal

pub loop-segment-preserved : goal.loop-segment-preserved
loop-segment-preserved c =
    let net : Topology = c.args.topology.now in
    let segments : List Segment = c.args.segments.now in
    let i : ℕ = c.loop-segment.segment-index in
    let part : Segment = c.segment-item.result in
    let weight : Segment → ℕ = λ (p : Segment). walk_weight net p.hops in
    let here : c.walk_weight.result ≡ weight part = c.walk_weight.ensures.weight ∙ ap (walk_weight net) (c.as_slice.ensures.value ∙ ap (λ (p : Segment). p.hops) c.segment.view_is) in
    let more : segments_weight net (take (i + 1) segments) ≡ segments_weight net (take i segments) + weight part =
    sum_by_more weight segments i part c.loop-segment-test.true ∙ ap (λ (p : Segment). segments_weight net (take i segments) + weight p) (sym c.segment-item.is) in
    record {
      weight = ap (λ (n : ℕ). c.loop-segment.sum + n) here ∙ ap (λ (n : ℕ). n + weight part) c.loop-segment.invariant.weight ∙ sym more;
      light = omega (arith, c.walk_weight.ensures.light, c.loop-segment.invariant.light);
    }
