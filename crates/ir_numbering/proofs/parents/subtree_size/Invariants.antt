use Rattle.std.proofs.Common.{ℕ, ◌<◌, ◌≤◌, ◌-◌, length}
use Rattle.std.specs.Prelude.{slice_index}
use Rattle.ir_numbering.proofs.parents.subtree_size.Given as goal

abbrev pub invariant-loop-end : goal.invariant-loop-end
invariant-loop-end l = record {
  from : l.place < l.end;
  to : l.end ≤ length l.parents;
  inside : (k : ℕ) → l.place < k → k < l.end → l.place ≤ slice_index l.parents k;
}

abbrev pub decreases-loop-end : goal.decreases-loop-end
decreases-loop-end l = length l.parents - l.end
