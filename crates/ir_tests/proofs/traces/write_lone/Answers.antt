use Rattle.std.proofs.Common.{◌<◌, [], ◌∷◌, subst, arith}
use Rattle.ir_model.specs.Topology.{Topology, node_count}
use Rattle.ir_trace.specs.Written.{AreWritable}
use Rattle.ir_tests.proofs.Lone.{lone_writable}
use Rattle.ir_tests.proofs.traces.write_lone.Goals as goal

pub write_trace-requires-clause-records : goal.write_trace-requires-clause-records
write_trace-requires-clause-records g c =
    let P : Topology → Type 0 = λ net. AreWritable net (c.in-Ok.record ∷ []) in
    let some : 0 < node_count c.in_ok-topology.topology = omega (arith, c.if-nodes-eq0.false, c.nodes.ensures.count) in
    subst P c.in_ok-topology.ensures (lone_writable _ _ some c.in-Ok.ensures)
