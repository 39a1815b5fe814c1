use Rattle.std.proofs.Common.{◌≡◌, map, take}
use Rattle.std.specs.Prelude.{filter, slice_index, ◌==◌}
use Rattle.ir_model.specs.declared.Hop.{Hop}
use Rattle.ir_bounds.proofs.trees.sons.Given as goal

abbrev pub invariant-loop-hop : goal.invariant-loop-hop
invariant-loop-hop l = l.list.items ≡ filter (λ v. slice_index l.parents v == l.u) (take l.hop-index (map (λ (hop : Hop). hop.node) l.ports))
