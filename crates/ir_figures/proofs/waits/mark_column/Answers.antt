use Rattle.std.proofs.Common.{◌≡◌, ℕ, subst, arith}
use Rattle.ir_model.specs.Topology.{node_count}
use Rattle.ir_figures.specs.Arcs.{marks_of}
use Rattle.ir_figures.specs.Exits.{exits_before, AreLinks, WaitsSoFar}
use Rattle.ir_figures.proofs.SoFar.{next_label_so_far}
use Rattle.ir_figures.proofs.waits.mark_column.Goals as goal

pub returns : goal.returns
returns c =
    let s = c.args.plan.now in
    let n = node_count s.topology in
    let links = c.loop-u.links in
    let all : c.loop-u.u ≡ n = omega (arith, c.loop-u-test.false, c.loop-u.auto.u-end, c.nodes-u-end.ensures.count) in
    next_label_so_far s c.requires.plan links.begins.items (marks_of links.marks.items) (exits_before s.topology n) c.args.a
    (subst (λ (k : ℕ). AreLinks s.topology (WaitsSoFar s c.args.a k) links.begins.items (marks_of links.marks.items) (exits_before s.topology n)) all c.loop-u.invariant)
