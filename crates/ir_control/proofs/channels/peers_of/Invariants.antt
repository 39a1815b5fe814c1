use Rattle.ir_control.specs.Places.{IsFilledTo, IsPeer}
use Rattle.ir_control.proofs.channels.peers_of.Given as goal

abbrev pub invariant-loop-u : goal.invariant-loop-u
invariant-loop-u l = IsFilledTo l.topology (IsPeer l.topology) l.u 0 l.peers.items
