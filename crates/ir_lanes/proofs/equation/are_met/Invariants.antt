use Rattle.std.proofs.Common.{ℕ, ◌<◌}
use Rattle.ir_lanes.specs.Equation.{IsMet}
use Rattle.ir_lanes.proofs.equation.are_met.Given as goal

abbrev pub invariant-loop-u : goal.invariant-loop-u
invariant-loop-u l = (v : ℕ) → v < l.u → IsMet l.topology l.unit l.starts l.lanes v
