use Rattle.std.proofs.Common.{◌≡◌, ◌≢◌, ap, arith}
use Rattle.ir_model.specs.Topology.{Topology, node_count}
use Rattle.ir_tables.specs.Relaxation.{at}
use Rattle.ir_tables.specs.Listed.{listed_port}
use Rattle.ir_tables.proofs.Ways.{way_on, written_step}
use Rattle.ir_tables.proofs.listed.write_walk.Goals as goal

pub overflow_sub-left : goal.overflow_sub-left
overflow_sub-left c =
    let net : Topology = c.args.topology.now in
    let other : c.loop-step.x ≢ c.args.d = λ e. (let same : at c.loop-step.weights c.loop-step.x ≡ at c.loop-step.weights c.args.d = ap (at c.loop-step.weights) e in omega (arith, same, c.loop-step.invariant.filled.end, c.if-weights-x.false)) in
    (way_on net c.nodes-step-end.ensures.topology (listed_port (node_count net) c.args.ports.now) c.args.d c.loop-step.x c.loop-step.left c.hop_at-hop.result other c.hop_at-hop.ensures c.loop-step.invariant.way).0

pub loop-step-preserved : goal.loop-step-preserved
loop-step-preserved c =
    let net : Topology = c.args.topology.now in
    let other : c.loop-step.x ≢ c.args.d = λ e. (let same : at c.loop-step.weights c.loop-step.x ≡ at c.loop-step.weights c.args.d = ap (at c.loop-step.weights) e in omega (arith, same, c.loop-step.invariant.filled.end, c.if-weights-x.false)) in
    written_step net c.nodes-step-end.ensures.topology (listed_port (node_count net) c.args.ports.now) c.args.d c.args.u c.loop-step.x c.loop-step.left c.loop-step._step c.args.weights.now c.loop-step.weights c.hop_at-hop.result c.requires.end c.loop-step.invariant c.if-weights-x.false other c.hop_at-hop.ensures
