use Rattle.ir_numbering.proofs.Placing.{IsPlacing}
use Rattle.ir_numbering.proofs.order.is_order.Given as goal

abbrev pub invariant-loop-u : goal.invariant-loop-u
invariant-loop-u l = IsPlacing l.nodes l.u-index l.order l.placed.items
