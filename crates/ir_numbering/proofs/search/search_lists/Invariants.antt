use Rattle.std.proofs.Common.{◌≤◌, ◌+◌, ◌-◌, ◌*◌, length}
use Rattle.ir_numbering.specs.Search.{ArePassed, list_at}
use Rattle.ir_numbering.proofs.Traversal.{IsTraversal, IsMarked}
use Rattle.ir_numbering.proofs.search.search_lists.Given as goal

abbrev pub invariant-search : goal.invariant-search
invariant-search l = record {
  traversal : IsTraversal (list_at l.lists) (length l.lists) l.root l.nodes.items l.parents.items l.stack.items;
  marks : IsMarked (length l.lists) l.nodes.items l.marked.items;
  passed : ArePassed l.lists l.marked.items l.passed.items;
  within : length l.nodes.items ≤ length l.lists;
}

abbrev pub decreases-search : goal.decreases-search
decreases-search l = 2 * (l.n - length l.nodes.items) + length l.stack.items
