use Rattle.ir_control.specs.Places.{IsFilledTo}
use Rattle.ir_control.specs.Wired.{IsNetChannel}
use Rattle.ir_control.proofs.channels.add_ways.Given as goal

abbrev pub invariant-loop-hop : goal.invariant-loop-hop
invariant-loop-hop l = IsFilledTo l.topology (λ v hop channel. IsNetChannel l.terms.opening.now l.terms.restamps l.terms.capacity v hop.node channel) l.u l.hop-index l.ways.items
