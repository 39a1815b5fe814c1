use Rattle.std.specs.Prelude.{◌≡◌, sum_by, take}
use Rattle.ir_control.specs.Parts.{node_number}
use Rattle.ir_control.specs.Slots.{hit}
use Rattle.ir_control.proofs.report.has_node.Given as goal

abbrev pub invariant-loop-k : goal.invariant-loop-k
invariant-loop-k l = sum_by (hit node_number l.u) (take l.k l.nodes.items) ≡ 0
