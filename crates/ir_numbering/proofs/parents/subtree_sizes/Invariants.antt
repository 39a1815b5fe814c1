use Rattle.std.proofs.Common.{◌≤◌, length}
use Rattle.ir_numbering.specs.Sizes.{AreSizesFrom}
use Rattle.ir_numbering.proofs.parents.subtree_sizes.Given as goal

abbrev pub invariant-loop-first : goal.invariant-loop-first
invariant-loop-first l = record { within : l.first ≤ length l.parents; sizes : AreSizesFrom l.first l.parents l.sizes.items }

abbrev pub decreases-loop-first : goal.decreases-loop-first
decreases-loop-first l = l.first
