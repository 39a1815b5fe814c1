use Rattle.std.proofs.Common.{◌≡◌, ◌<◌, ℕ, false, get_or, not, []}
use Rattle.ir_model.specs.Graph.{names}
use Rattle.ir_patches.specs.Nodes.{is_there}
use Rattle.ir_patches.proofs.nodes.first_other.Given as goal

abbrev pub invariant-loop-u : goal.invariant-loop-u
invariant-loop-u l = (k : ℕ) → k < l.u → not (is_there (names l.others) (get_or (names l.graph) k [])) ≡ false
