use Rattle.ir_model.specs.Topology.{node_count}
use Rattle.ir_control.proofs.Returned.{first_apart}
use Rattle.memory_tests.proofs.nets.run_with.Goals as goal

pub report-requires-clause-nodes : goal.report-requires-clause-nodes
report-requires-clause-nodes g c =
    let net = c.args.net.now in first_apart net (node_count net.topology) c.take_all.new.parts.nodes.items c.take_all.ensures.nodes
