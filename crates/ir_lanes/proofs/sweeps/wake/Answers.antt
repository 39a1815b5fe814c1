use Rattle.std.proofs.Common.{◌∙◌, true, get_or, length-set, arith}
use Rattle.ir_tables.proofs.Rounds.{past, node_next}
use Rattle.ir_lanes.proofs.sweeps.wake.Goals as goal

pub bounds-waits-hop : goal.bounds-waits-hop
bounds-waits-hop c =
    let ok = c.invariant.ensures.topology in
    let to = node_next c.args.topology.now ok c.args.u c.loop-hop.hop-index c.ports-hop-items.result.now
    c.ports-hop-items.ensures c.loop-hop-test.true in
    omega (arith, to, c.loop-hop.invariant)

pub loop-hop-preserved : goal.loop-hop-preserved
loop-hop-preserved c =
    let hop = get_or c.ports-hop-items.result.now c.loop-hop.hop-index past in
    length-set c.loop-hop.waits hop.node true ∙ c.loop-hop.invariant
