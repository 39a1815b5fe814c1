use Rattle.std.proofs.Common.{length}
use Rattle.ir_model.specs.Topology.{node_count, ports_of}
use Rattle.ir_bounds.proofs.Linked.{IsBestLinked}
use Rattle.ir_bounds.proofs.order.next_linked.Given as goal

abbrev pub invariant-loop-v : goal.invariant-loop-v
invariant-loop-v l = IsBestLinked (λ v. length (ports_of l.topology v)) l.marks (node_count l.topology) l.v l.best
