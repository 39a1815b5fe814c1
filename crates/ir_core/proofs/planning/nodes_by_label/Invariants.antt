use Rattle.std.proofs.Common.{◌≡◌, ◌<◌, ℕ, vec_len, slice_index}
use Rattle.ir_model.specs.Plan.{node_in}
use Rattle.ir_core.proofs.planning.nodes_by_label.Given as goal

abbrev pub invariant-loop-label : goal.invariant-loop-label
invariant-loop-label l = record {
  every : vec_len l.nodes ≡ l.label;
  each : (a : ℕ) → a < l.label → slice_index l.nodes.items a ≡ node_in l.plan a;
}
