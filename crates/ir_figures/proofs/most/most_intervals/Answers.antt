use Rattle.std.proofs.Common.{◌≡◌, ℕ, subst, arith}
use Rattle.ir_model.specs.Topology.{node_count}
use Rattle.ir_figures.specs.Compactness.{AreMostBefore}
use Rattle.ir_figures.proofs.most.most_intervals.Goals as goal

pub returns : goal.returns
returns c =
    let s = c.args.plan.now in
    let end : c.loop-u.u ≡ node_count s.topology = omega (arith, c.loop-u-test.false, c.loop-u.auto.u-end, c.nodes-u-end.ensures.count) in
    subst (λ (x : ℕ). AreMostBefore s x 0 c.loop-u.most) end c.loop-u.invariant
