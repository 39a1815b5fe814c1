use Rattle.ir_numbering.specs.Cells.{AreTreeCells}
use Rattle.ir_numbering.proofs.tree.ports_by_label.Given as goal

abbrev pub invariant-loop-place : goal.invariant-loop-place
invariant-loop-place l = AreTreeCells l.topology l.order l.parents l.own l._place l.ports.items
