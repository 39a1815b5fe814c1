use Rattle.std.proofs.Common.{◌≡◌, map, take}
use Rattle.ir_model.specs.declared.Hop.{Hop}
use Rattle.ir_numbering.proofs.adjacency.neighbor_lists.Given as goal

abbrev pub invariant-loop-u : goal.invariant-loop-u
invariant-loop-u l = map (λ list. list.items) l.lists.items ≡ map (map (λ (hop : Hop). hop.node)) (take l.u l.topology.ports)
