use Rattle.std.proofs.Common.{◌≡◌, map, take}
use Rattle.ir_model.specs.declared.Hop.{Hop}
use Rattle.ir_numbering.proofs.adjacency.nodes_at.Given as goal

abbrev pub invariant-loop-hop : goal.invariant-loop-hop
invariant-loop-hop l = l.nodes.items ≡ map (λ (hop : Hop). hop.node) (take l.hop-index l.ports)
