use Rattle.std.proofs.Common.{◌≡◌, length, ap, arith}
use Rattle.ir_model.specs.Topology.{Topology, ports_of}
use Rattle.ir_figures.proofs.Counted.{node_done}
use Rattle.ir_figures.proofs.Offsets.{degree_le}
use Rattle.ir_figures.proofs.most.most_of_node.Goals as goal

pub overflow_cast-p : goal.overflow_cast-p
overflow_cast-p c =
    let net = c.args.plan.now.topology in
    omega (arith, c.loop-p-test.true, c.degree-p-end.ensures, ap (λ (x : Topology). length (ports_of x c.args.u)) c.topology.ensures, degree_le net c.requires.plan.topology c.args.u, c.requires.plan.topology.few_nodes)

pub returns : goal.returns
returns c =
    let s = c.args.plan.now in
    let end : c.loop-p.p ≡ length (ports_of s.topology c.args.u) =
    omega (arith, c.loop-p-test.false, c.loop-p.auto.p-end, c.degree-p-end.ensures, ap (λ (x : Topology). length (ports_of x c.args.u)) c.topology.ensures) in
    node_done s c.args.u c.loop-p.p c.loop-p.most end c.loop-p.invariant
