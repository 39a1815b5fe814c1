use Rattle.std.proofs.Common.{◌+◌, length, sum}
use Rattle.std.specs.BinaryHeap.{heap_items}
use Rattle.ir_tables.specs.Keys.{NoNode}
use Rattle.ir_bounds.specs.Searches.{IsSearching}
use Rattle.ir_bounds.proofs.search.weights_within.Given as goal

abbrev pub invariant-loop-entry : goal.invariant-loop-entry
invariant-loop-entry l = IsSearching l.topology l.u l.reaches NoNode l.weights.items (heap_items l.waiting)

abbrev pub decreases-loop-entry : goal.decreases-loop-entry
decreases-loop-entry l = sum l.weights.items + length (heap_items l.waiting)
