use Rattle.std.proofs.Common.{◌≡◌, map, take}
use Rattle.ir_model.specs.Graph.{names}
use Rattle.ir_patches.specs.Nodes.{number_named}
use Rattle.ir_patches.proofs.nodes.numbers_in.Given as goal

abbrev pub invariant-loop-u : goal.invariant-loop-u
invariant-loop-u l = l.numbers.items ≡ map (number_named (names l.old)) (take l.u (names l.graph))
