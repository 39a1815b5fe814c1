use Rattle.std.proofs.Common.{◌≡◌, ◌<◌, ℕ, Some, slice_get}
use Rattle.ir_model.specs.declared.Hop.{Hop}
use Rattle.ir_figures.proofs.parts.port_to.Given as goal

abbrev pub invariant-loop-p : goal.invariant-loop-p
invariant-loop-p l = (q : ℕ) (hop : Hop) → q < l.p → slice_get l.ports q ≡ Some hop → hop.node ≡ l.v → ⊥
