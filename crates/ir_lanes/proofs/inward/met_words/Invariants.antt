use Rattle.std.proofs.Common.{ℕ, ◌<◌}
use Rattle.ir_lanes.specs.Equation.{IsMet}
use Rattle.ir_lanes.specs.Inward.{AreTightWords}
use Rattle.ir_lanes.proofs.inward.met_words.Given as goal

abbrev pub invariant-loop-u : goal.invariant-loop-u
invariant-loop-u l = record {
  tight : AreTightWords l.topology l.lanes l.u l.words.items;
  met : (v : ℕ) → v < l.u → IsMet l.topology 1 l.starts l.lanes v;
}
