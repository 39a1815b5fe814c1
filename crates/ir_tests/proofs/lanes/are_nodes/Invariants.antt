use Rattle.std.proofs.Common.{ℕ, ◌<◌, slice_index}
use Rattle.ir_model.specs.Topology.{node_count}
use Rattle.ir_tests.proofs.lanes.are_nodes.Given as goal

abbrev pub invariant-loop-v : goal.invariant-loop-v
invariant-loop-v l = (d : ℕ) → d < l.v-index → slice_index l.nodes d < node_count l.topology
