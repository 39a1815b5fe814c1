use Rattle.std.proofs.Common.{◌≡◌, ◌≢◌, ap, arith}
use Rattle.ir_model.specs.Topology.{Topology}
use Rattle.ir_model.specs.Plan.{table_port}
use Rattle.ir_tables.specs.Relaxation.{at}
use Rattle.ir_tables.specs.Listed.{IsTableHop}
use Rattle.ir_tables.proofs.Ways.{next_at, way_on, written_step}
use Rattle.ir_show.proofs.weights.write_walk.Goals as goal

pub overflow_sub-left : goal.overflow_sub-left
overflow_sub-left c =
    let net : Topology = c.args.plan.now.topology in
    let other : c.loop-step.x ≢ c.args.d = λ e. (let same : at c.loop-step.weights c.loop-step.x ≡ at c.loop-step.weights c.args.d = ap (at c.loop-step.weights) e in omega (arith, same, c.loop-step.invariant.filled.end, c.if-weights-x.false)) in
    let next : IsTableHop net (table_port c.args.plan.now) c.loop-step.x c.args.d c.hop_towards-hop.result = next_at net (table_port c.args.plan.now) c.loop-step.x c.args.d c.hop_towards-hop.result c.hop_towards-hop.ensures in
    (way_on net c.requires.plan.topology (table_port c.args.plan.now) c.args.d c.loop-step.x c.loop-step.left c.hop_towards-hop.result other next c.loop-step.invariant.way).0

pub loop-step-preserved : goal.loop-step-preserved
loop-step-preserved c =
    let net : Topology = c.args.plan.now.topology in
    let other : c.loop-step.x ≢ c.args.d = λ e. (let same : at c.loop-step.weights c.loop-step.x ≡ at c.loop-step.weights c.args.d = ap (at c.loop-step.weights) e in omega (arith, same, c.loop-step.invariant.filled.end, c.if-weights-x.false)) in
    let next : IsTableHop net (table_port c.args.plan.now) c.loop-step.x c.args.d c.hop_towards-hop.result = next_at net (table_port c.args.plan.now) c.loop-step.x c.args.d c.hop_towards-hop.result c.hop_towards-hop.ensures in
    written_step net c.requires.plan.topology (table_port c.args.plan.now) c.args.d c.args.u c.loop-step.x c.loop-step.left c.loop-step._step c.args.weights.now c.loop-step.weights c.hop_towards-hop.result c.requires.end c.loop-step.invariant c.if-weights-x.false other next
