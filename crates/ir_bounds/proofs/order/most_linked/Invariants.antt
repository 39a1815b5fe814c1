use Rattle.ir_bounds.proofs.Linked.{AreLinkedBelow}
use Rattle.ir_bounds.proofs.order.most_linked.Given as goal

abbrev pub invariant-loop-i : goal.invariant-loop-i
invariant-loop-i l = AreLinkedBelow l.topology l.root l.i l.landmarks.items l.marks.items
