use Rattle.ir_control.specs.Places.{IsFilledTo, IsPeer}
use Rattle.ir_control.proofs.channels.add_peers.Given as goal

abbrev pub invariant-loop-hop : goal.invariant-loop-hop
invariant-loop-hop l = IsFilledTo l.topology (IsPeer l.topology) l.u l.hop-index l.peers.items
