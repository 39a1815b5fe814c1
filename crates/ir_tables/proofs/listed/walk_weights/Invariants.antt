use Rattle.std.proofs.Common.{ℕ, ◌<◌}
use Rattle.ir_model.specs.Topology.{node_count}
use Rattle.ir_tables.specs.Relaxation.{at, unreached}
use Rattle.ir_tables.specs.Listed.{listed_port, IsFilled}
use Rattle.ir_tables.proofs.listed.walk_weights.Given as goal

abbrev pub invariant-loop-u : goal.invariant-loop-u
invariant-loop-u l = record {
  filled : IsFilled l.topology (listed_port (node_count l.topology) l.ports) l.d l.weights.items;
  known : (v : ℕ) → v < l.u → at l.weights.items v < unreached;
}
