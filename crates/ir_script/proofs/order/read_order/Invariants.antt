use Rattle.std.proofs.Common.{length}
use Rattle.ir_model.specs.Graph.{names}
use Rattle.ir_script.proofs.Orders.{IsReading}
use Rattle.ir_script.proofs.order.read_order.Given as goal

abbrev pub invariant-loop-rest : goal.invariant-loop-rest
invariant-loop-rest l = IsReading (names l.graph) l.text l.order.items l.placed.items l.line l.rest

abbrev pub decreases-loop-rest : goal.decreases-loop-rest
decreases-loop-rest l = length l.rest
