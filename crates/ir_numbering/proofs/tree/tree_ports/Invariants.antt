use Rattle.ir_numbering.specs.Cells.{AreTreeRows}
use Rattle.ir_numbering.proofs.tree.tree_ports.Given as goal

abbrev pub invariant-loop-u : goal.invariant-loop-u
invariant-loop-u l = AreTreeRows l.topology l.order l.parents l.labels l.u l.ports.items
