use Rattle.ir_numbering.proofs.ParentPorts.{parent_linked_to, first_has_none, other_has_port}
use Rattle.ir_numbering.proofs.parents.parent_port.Goals as goal

pub port_to_neighbor-requires : goal.port_to_neighbor-requires
port_to_neighbor-requires c =
    parent_linked_to c.args.topology.now c.invariant.ensures.topology _ c.args.order.now c.args.parents.now c.args.labels.now c.requires.order c.requires.labels c.args.u c.requires.node c.if-label-eq0.false

pub returns : goal.returns
returns c =
    other_has_port c.args.topology.now c.invariant.ensures.topology _ c.args.order.now c.args.parents.now c.args.labels.now c.requires.order c.requires.labels c.args.u c.requires.node c.if-label-eq0.false
    c.port_to_neighbor.result c.port_to_neighbor.ensures

pub returns-then-label-eq0 : goal.returns-then-label-eq0
returns-then-label-eq0 c =
    first_has_none c.args.topology.now c.invariant.ensures.topology _ c.args.order.now c.args.parents.now c.args.labels.now c.requires.order c.requires.labels c.args.u c.requires.node c.if-label-eq0.true
