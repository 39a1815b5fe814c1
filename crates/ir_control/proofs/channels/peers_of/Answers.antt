use Rattle.std.proofs.Common.{arith}
use Rattle.ir_control.specs.Places.{IsPeer}
use Rattle.ir_control.proofs.Rows.{filled_none, filled_all}
use Rattle.ir_control.proofs.channels.peers_of.Goals as goal

pub loop-u-init : goal.loop-u-init
loop-u-init c = filled_none c.args.topology.now (IsPeer c.args.topology.now) c.new-peers.result.items c.new-peers.ensures.items

pub returns : goal.returns
returns c =
    let least = c.loop-u-test.false in
    let most = c.loop-u.auto.u-end in
    let nodes = c.nodes-u-end.ensures.count in
    filled_all c.args.topology.now (IsPeer c.args.topology.now) c.loop-u.u c.loop-u.peers.items (omega (arith, least, most, nodes)) c.loop-u.invariant
