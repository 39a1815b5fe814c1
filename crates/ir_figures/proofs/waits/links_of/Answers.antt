use Rattle.std.proofs.Common.{◌≡◌, ℕ, subst, arith}
use Rattle.ir_model.specs.Topology.{node_count}
use Rattle.ir_figures.specs.Arcs.{marks_of}
use Rattle.ir_figures.specs.Exits.{exits_before, AreLinks, WaitsSoFar}
use Rattle.ir_figures.proofs.SoFar.{all_so_far}
use Rattle.ir_figures.proofs.waits.links_of.Goals as goal

pub returns : goal.returns
returns c =
    let s = c.args.plan.now in
    let n = node_count s.topology in
    let links = c.loop-a.links in
    let all : c.loop-a.a ≡ n = omega (arith, c.loop-a-test.false, c.loop-a.auto.a-end, c.nodes-a-end.ensures.count) in
    all_so_far s c.invariant.ensures.plan links.begins.items (marks_of links.marks.items) (exits_before s.topology n)
    (subst (λ (a : ℕ). AreLinks s.topology (WaitsSoFar s a 0) links.begins.items (marks_of links.marks.items) (exits_before s.topology n)) all c.loop-a.invariant.links)
