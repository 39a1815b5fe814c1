use Rattle.ir_figures.specs.Exits.{AreNextExits}
use Rattle.ir_figures.proofs.waits.push_node.Given as goal

abbrev pub invariant-loop-p : goal.invariant-loop-p
invariant-loop-p l = AreNextExits l.fn.nodes.items l.u l._p l.nodes.items
