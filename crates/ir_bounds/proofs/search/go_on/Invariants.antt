use Rattle.std.proofs.Common.{length}
use Rattle.std.specs.BinaryHeap.{heap_items}
use Rattle.ir_bounds.proofs.Searching.{IsOffering}
use Rattle.ir_bounds.proofs.search.go_on.Given as goal

abbrev pub invariant-loop-hop : goal.invariant-loop-hop
invariant-loop-hop l =
    IsOffering l.topology l.u l.x l.own l.reaches l.initial.weights (length (heap_items l.initial.waiting)) l.weights (heap_items l.waiting) l.hop-index
