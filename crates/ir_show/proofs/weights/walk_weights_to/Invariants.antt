use Rattle.std.proofs.Common.{ℕ, ◌<◌}
use Rattle.ir_model.specs.Plan.{table_port}
use Rattle.ir_tables.specs.Relaxation.{at, unreached}
use Rattle.ir_tables.specs.Listed.{IsFilled}
use Rattle.ir_show.proofs.weights.walk_weights_to.Given as goal

abbrev pub invariant-loop-u : goal.invariant-loop-u
invariant-loop-u l = record {
  filled : IsFilled l.plan.topology (table_port l.plan) l.d l.weights.items;
  known : (v : ℕ) → v < l.u → at l.weights.items v < unreached;
}
