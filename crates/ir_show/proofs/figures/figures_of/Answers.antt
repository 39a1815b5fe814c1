use Rattle.std.proofs.Common.{◌≡◌, ℕ, subst, arith}
use Rattle.ir_model.specs.Topology.{node_count}
use Rattle.ir_show.specs.Figures.{AreFiguresBefore}
use Rattle.ir_show.proofs.Destinations.{no_figures, all_figures}
use Rattle.ir_show.proofs.figures.figures_of.Goals as goal

pub loop-d-init : goal.loop-d-init
loop-d-init c = no_figures c.args.plan.now

pub returns : goal.returns
returns c =
    let s = c.args.plan.now in
    let all : c.loop-d.d ≡ node_count s.topology = omega (arith, c.nodes-d-end.ensures.count) in
    let P : ℕ → Type 0 = λ k. AreFiguresBefore s k c.loop-d.figures in
    all_figures s c.nodes-d-end.ensures.plan c.loop-d.figures (subst P all c.loop-d.invariant)
