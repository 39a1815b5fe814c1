use Rattle.ir_control.proofs.Rows.{wired}
use Rattle.ir_control.proofs.net.wires_of.Goals as goal

pub returns-clause-ways : goal.returns-clause-ways
returns-clause-ways c =
    wired c.args.topology.now c.args.terms.now.opening.now c.args.terms.now.restamps c.args.terms.now.capacity c.in_ok-ways.ways.items c.in_ok-peers.peers.items
    c.invariant.ensures.topology c.in_ok-ways.ensures.ways c.in_ok-peers.ensures
