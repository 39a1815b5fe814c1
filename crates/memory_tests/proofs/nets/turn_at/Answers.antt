use Rattle.std.proofs.Common.{refl, arith, length}
use Rattle.std.proofs.lemmas.Option.{slice_get_read}
use Rattle.ir_model.specs.Topology.{node_count}
use Rattle.memory_tests.proofs.Turned.{first_turned}
use Rattle.memory_tests.proofs.nets.turn_at.Goals as goal

pub returns : goal.returns
returns g c =
    let nodes = c.args.nodes.now.items in
    let a = c.index_mut-node.result.now in
    first_turned c.args.net.now (node_count c.args.net.now.topology) nodes c.args.u a c.turn.new.node c.requires
    (slice_get_read nodes (length nodes) c.args.u a refl (omega arith) c.index_mut-node.ensures.value) c.turn.ensures
