use Rattle.std.proofs.Common.{◌≡◌, ◌++◌, map, take, None}
use Rattle.std.specs.Prelude.{slice_index_or}
use Rattle.ir_numbering.proofs.tree.push_by_node.Given as goal

abbrev pub invariant-loop-label : goal.invariant-loop-label
invariant-loop-label l = l.ports.items ≡ l.initial.ports.items ++ map (λ label. slice_index_or l.row label None) (take l.label-index l.labels)
