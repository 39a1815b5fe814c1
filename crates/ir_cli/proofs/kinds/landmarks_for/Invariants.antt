use Rattle.std.proofs.Common.{◌≡◌, ◌-◌, ◌<◌, ℕ, suc}
use Rattle.ir_cli.proofs.Fewest.{AreTooFew}
use Rattle.ir_cli.proofs.kinds.landmarks_for.Given as goal

abbrev pub invariant-loop-count : goal.invariant-loop-count
invariant-loop-count l = (k : ℕ) × (l.count ≡ suc k) × (k < 16384) × AreTooFew l.nodes k

abbrev pub decreases-loop-count : goal.decreases-loop-count
decreases-loop-count l = l.nodes - l.count
