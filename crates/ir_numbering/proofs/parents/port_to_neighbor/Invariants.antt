use Rattle.std.proofs.Common.{◌≡◌, ◌≤◌, ℕ, Some, slice_get}
use Rattle.ir_model.specs.declared.Hop.{Hop}
use Rattle.ir_numbering.proofs.parents.port_to_neighbor.Given as goal

abbrev pub invariant-loop-p : goal.invariant-loop-p
invariant-loop-p l = (p : ℕ) (hop : Hop) → slice_get l.hop-items p ≡ Some hop → hop.node ≡ l.v → l.p ≤ p
