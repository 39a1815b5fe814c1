use Rattle.std.proofs.Common.{◌≡◌, ◌≢◌, ◌<◌, ap, arith}
use Rattle.ir_model.specs.Topology.{Topology, IsTopology}
use Rattle.ir_model.specs.Plan.{table_port}
use Rattle.ir_model.proofs.Walks.{PortFacts, port_facts}
use Rattle.ir_tables.specs.Relaxation.{at, unreached}
use Rattle.ir_tables.specs.Listed.{IsTableHop}
use Rattle.ir_tables.proofs.Ways.{next_at, walked_step, way_bound}
use Rattle.ir_show.proofs.Destinations.{walk_starts}
use Rattle.ir_show.proofs.weights.weight_of_walk.Goals as goal

pub loop-step-init : goal.loop-step-init
loop-step-init c = walk_starts c.args.plan.now c.requires.plan c.args.u c.args.d c.requires.node c.requires.end

pub overflow_add-result : goal.overflow_add-result
overflow_add-result c =
    let net : Topology = c.args.plan.now.topology in
    let ok : IsTopology net = c.requires.plan.topology in
    let below : at c.args.weights.now c.loop-step.x < unreached = omega arith in
    let bound = way_bound net ok (table_port c.args.plan.now) c.args.d c.loop-step.x (at c.args.weights.now c.loop-step.x) c.loop-step.invariant.in_net c.requires.end (c.requires.filled.ways c.loop-step.x c.loop-step.invariant.in_net below) in
    omega (arith, bound, c.loop-step.invariant.light, c.loop-step.invariant.left_is, ok.few_nodes)

pub overflow_add-sum : goal.overflow_add-sum
overflow_add-sum c =
    let net : Topology = c.args.plan.now.topology in
    let ok : IsTopology net = c.requires.plan.topology in
    let next : IsTableHop net (table_port c.args.plan.now) c.loop-step.x c.args.d c.hop_towards-hop.result = next_at net (table_port c.args.plan.now) c.loop-step.x c.args.d c.hop_towards-hop.result c.hop_towards-hop.ensures in
    let facts : PortFacts net c.loop-step.x c.hop_towards-hop.result = port_facts net ok c.loop-step.x next.port c.hop_towards-hop.result next.there in
    omega (arith, facts.bounded, c.loop-step.invariant.light, c.loop-step.invariant.left_is, ok.few_nodes)

pub loop-step-preserved : goal.loop-step-preserved
loop-step-preserved c =
    let net : Topology = c.args.plan.now.topology in
    let other : c.loop-step.x ≢ c.args.d = λ e. (let same : at c.args.weights.now c.loop-step.x ≡ at c.args.weights.now c.args.d = ap (at c.args.weights.now) e in omega (arith, same, c.requires.filled.end, c.if-known.false)) in
    let next : IsTableHop net (table_port c.args.plan.now) c.loop-step.x c.args.d c.hop_towards-hop.result = next_at net (table_port c.args.plan.now) c.loop-step.x c.args.d c.hop_towards-hop.result c.hop_towards-hop.ensures in
    walked_step net c.requires.plan.topology (table_port c.args.plan.now) c.args.d c.args.u c.loop-step.x c.loop-step.sum c.loop-step._step c.hop_towards-hop.result c.loop-step.invariant other next
