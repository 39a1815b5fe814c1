use Rattle.std.proofs.Common.{◌≡◌, ◌∙◌, ◌+◌, ◌-◌, ◌<◌, ℕ, List, length, min, ap, subst, arith}
use Rattle.std.proofs.Math.Nat.{min-le_left, min-le_right}
use Rattle.ir_model.specs.Topology.{node_count}
use Rattle.ir_tables.specs.Relaxation.{at}
use Rattle.ir_show.specs.Figures.{sum_to}
use Rattle.ir_figures.proofs.FarAway.{source_of, batch_end, sum_at, one_farther}
use Rattle.ir_figures.proofs.far.lanes_sum.Goals as goal

pub distances_to-requires-clause-source : goal.distances_to-requires-clause-source
distances_to-requires-clause-source c =
    let n = node_count c.args.plan.now.topology in
    let low = min-le_left 16 (c.nodes.result - c.args.first) in
    let high = min-le_right 16 (c.nodes.result - c.args.first) in
    source_of c.args.found.now c.args.first c.loop-lane.lane n (omega (arith, c.loop-lane-test.true, c.min-lane-end.ensures, low))
    (omega (arith, c.loop-lane-test.true, c.min-lane-end.ensures, high, c.nodes.ensures.count, c.requires.first)) c.requires.sources

pub loop-lane-init : goal.loop-lane-init
loop-lane-init c = let e : c.args.first ≡ c.args.first + 0 = omega arith in sum_at c.args.plan.now c.args.first (c.args.first + 0) c.args.before e c.requires.before

pub loop-lane-preserved : goal.loop-lane-preserved
loop-lane-preserved c =
    let s = c.args.plan.now in
    let n = node_count s.topology in
    let d = c.args.first + c.loop-lane.lane in
    let high = min-le_right 16 (c.nodes.result - c.args.first) in
    let inside : d < n = omega (arith, c.loop-lane-test.true, c.min-lane-end.ensures, high, c.nodes.ensures.count, c.requires.first) in
    let added = subst (λ (ws : List ℕ). c.sum_to-sum.result ≡ sum_to (length ws) (at ws) d) c.as_slice.ensures.value c.sum_to-sum.ensures.sum in
    let e : d + 1 ≡ c.args.first + (c.loop-lane.lane + 1) = omega arith in
    sum_at s (d + 1) (c.args.first + (c.loop-lane.lane + 1)) (c.loop-lane.sum + c.sum_to-sum.result) e
    (one_farther s d c.loop-lane.sum c.sum_to-sum.result c.in_ok-weights.weights.items inside c.loop-lane.invariant c.in_ok-weights.ensures added c.sum_to-sum.ensures.light)

pub returns : goal.returns
returns c =
    let s = c.args.plan.now in
    let n = node_count s.topology in
    let all : c.loop-lane.lane ≡ c.min-lane-end.result = omega (arith, c.loop-lane-test.false, c.loop-lane.auto.lane-end) in
    let end = all ∙ c.min-lane-end.ensures ∙ ap (λ (k : ℕ). min 16 (k - c.args.first)) c.nodes.ensures.count in
    sum_at s (c.args.first + c.loop-lane.lane) (min (c.args.first + 16) n) c.loop-lane.sum (batch_end c.args.first n c.loop-lane.lane c.requires.first end) c.loop-lane.invariant
