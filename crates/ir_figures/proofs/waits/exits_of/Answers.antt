use Rattle.std.proofs.Common.{◌+◌, ◌<◌, ℕ, List, sym, subst, arith}
use Rattle.ir_model.specs.Topology.{node_count}
use Rattle.ir_figures.specs.Exits.{AreExits, AreNextExits}
use Rattle.ir_figures.proofs.Offsets.{before_le, exits_more}
use Rattle.ir_figures.proofs.waits.exits_of.Goals as goal

pub overflow_cast-len : goal.overflow_cast-len
overflow_cast-len c =
    let net = c.args.topology.now in
    let lt : c.loop-u.u < node_count net = omega (arith, c.loop-u-test.true, c.nodes-u-end.ensures.count) in
    omega (arith, lt, c.len.ensures, c.loop-u.nodes.ok, c.loop-u.invariant.all, before_le net c.nodes.ensures.topology c.loop-u.u (omega (arith, lt)), c.nodes.ensures.topology.few_nodes)

pub loop-u-preserved : goal.loop-u-preserved
loop-u-preserved c =
    let net = c.args.topology.now in
    let lt : c.loop-u.u < node_count net = omega (arith, c.loop-u-test.true, c.nodes-u-end.ensures.count) in
    let next = subst (λ (x : ℕ). AreNextExits c.loop-u.nodes.items c.loop-u.u x c.push_node.new.nodes.items) c.degree.ensures c.in_ok-push_node.ensures in
    let more = exits_more net c.loop-u.u c.len.result c.loop-u.first.items c.loop-u.nodes.items c.push_node.new.nodes.items lt (omega (arith, c.len.ensures, c.loop-u.nodes.ok)) c.loop-u.invariant next in
    subst (λ (xs : List ℕ). AreExits net (c.loop-u.u + 1) xs c.push_node.new.nodes.items) (sym c.in_ok-push.ensures.items) more
