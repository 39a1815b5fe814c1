use Rattle.ir_model.specs.Topology.{node_count}
use Rattle.ir_model.specs.Numbering.{neighbors_of}
use Rattle.ir_model.proofs.Ranked.{order_same, parents_same}
use Rattle.ir_model.proofs.laws.numberings.numbering_is_determined.Goals as goal

pub returns-clause-order : goal.returns-clause-order
returns-clause-order c net root order parents other others a b = order_same (neighbors_of net) (node_count net) root order parents other others a b

pub returns-clause-parents : goal.returns-clause-parents
returns-clause-parents c net root order parents other others a b = parents_same (neighbors_of net) (node_count net) root order parents other others a b
