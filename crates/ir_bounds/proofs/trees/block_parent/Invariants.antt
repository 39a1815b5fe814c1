use Rattle.ir_model.specs.Topology.{ports_of}
use Rattle.ir_bounds.specs.Blocks.{IsInward}
use Rattle.ir_bounds.proofs.Blocks.{IsLeastHop}
use Rattle.ir_bounds.proofs.trees.block_parent.Given as goal

abbrev pub invariant-loop-hop : goal.invariant-loop-hop
invariant-loop-hop l = IsLeastHop (IsInward l.owners.nodes.items l.owners.radii.items l.v) (ports_of l.topology l.v) l.hop-index l.best
