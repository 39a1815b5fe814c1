use Rattle.ir_bounds.proofs.Reaching.{IsRaising}
use Rattle.ir_bounds.proofs.reaches.raise_from.Given as goal

abbrev pub invariant-loop-hop : goal.invariant-loop-hop
invariant-loop-hop l = IsRaising l.topology l.x l.own l.initial.reaches l.reaches l.has_raised l.hop-index
