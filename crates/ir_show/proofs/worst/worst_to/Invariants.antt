use Rattle.std.proofs.Common.{ℕ, ◌<◌}
use Rattle.ir_show.specs.Before.{ArePositive, IsWorstBefore}
use Rattle.ir_show.specs.Figures.{AreTo}
use Rattle.ir_show.proofs.worst.worst_to.Given as goal

abbrev pub invariant-loop-u : goal.invariant-loop-u
invariant-loop-u l =
    (n : ℕ) (walk distance : ℕ → ℕ → ℕ) → l.d < n → AreTo n walk l.d l.walks → AreTo n distance l.d l.distances → ArePositive n distance → IsWorstBefore n walk distance 0 l.d l.fn.best
    → IsWorstBefore n walk distance l.u l.d l.worst
