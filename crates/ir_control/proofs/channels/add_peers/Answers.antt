use Rattle.std.proofs.Common.{arith}
use Rattle.ir_control.specs.Places.{IsPeer}
use Rattle.ir_control.proofs.Rows.{one_more, row_done, peer_there, peer_fits}
use Rattle.ir_control.proofs.channels.add_peers.Goals as goal

pub overflow_add-offsets : goal.overflow_add-offsets
overflow_add-offsets c =
    let peer = peer_there c.args.topology.now c.args.u c.loop-hop.hop-index c.ports-hop-items.result.now c.ports-hop-items.ensures c.loop-hop-test.true _
    c.args.offsets.now c.port_back-back.result c.requires.offsets.each c.port_back-back.ensures in
    let fits = peer_fits c.args.topology.now c.args.u _ _ peer in
    let most = c.requires.fits in
    omega (arith, fits, most)

pub loop-hop-preserved : goal.loop-hop-preserved
loop-hop-preserved c =
    one_more c.args.topology.now (IsPeer c.args.topology.now) c.args.u c.loop-hop.hop-index c.ports-hop-items.result.now c.ports-hop-items.ensures
    c.loop-hop.peers.items c.push.new.self.items _ _ c.loop-hop.invariant c.loop-hop-test.true
    (peer_there c.args.topology.now c.args.u c.loop-hop.hop-index c.ports-hop-items.result.now c.ports-hop-items.ensures c.loop-hop-test.true _
    c.args.offsets.now c.port_back-back.result c.requires.offsets.each c.port_back-back.ensures) c.in_ok-push.ensures.items

pub returns : goal.returns
returns c =
    row_done c.args.topology.now (IsPeer c.args.topology.now) c.args.u c.loop-hop.hop-index c.ports-hop-items.result.now c.ports-hop-items.ensures
    c.loop-hop.peers.items c.loop-hop.invariant c.requires.node c.loop-hop-test.false c.loop-hop.auto.hop-index-end
