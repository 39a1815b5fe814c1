use Rattle.std.proofs.Common.{◌+◌, ◌*◌, ◌<◌, ℕ, List, length, get_or, arith}
use Rattle.ir_model.specs.declared.Hop.{Hop}
use Rattle.ir_model.proofs.Walks.{port_facts}
use Rattle.ir_tables.proofs.Rounds.{past, node_next, port_next}
use Rattle.ir_lanes.proofs.Starts.{near_written}
use Rattle.ir_lanes.proofs.inward.near_end.Goals as goal

pub overflow_mul-lanes : goal.overflow_mul-lanes
overflow_mul-lanes c =
    let ok = c.invariant.ensures.topology in
    let to = node_next c.args.topology.now ok c.args.end c.loop-hop.hop-index c.ports-hop-items.result.now
    c.ports-hop-items.ensures c.loop-hop-test.true in
    record { fits = omega (arith, to, ok.few_nodes) }

pub overflow_add-lanes : goal.overflow_add-lanes
overflow_add-lanes c =
    let ok = c.invariant.ensures.topology in
    let to = node_next c.args.topology.now ok c.args.end c.loop-hop.hop-index c.ports-hop-items.result.now
    c.ports-hop-items.ensures c.loop-hop-test.true in
    record { fits = omega (arith, to, ok.few_nodes, c.requires.lane) }

pub bounds-lanes-hop : goal.bounds-lanes-hop
bounds-lanes-hop c =
    let ok = c.invariant.ensures.topology in
    let to = node_next c.args.topology.now ok c.args.end c.loop-hop.hop-index c.ports-hop-items.result.now
    c.ports-hop-items.ensures c.loop-hop-test.true in
    omega (arith, to, c.loop-hop.invariant.every, c.requires.lane)

pub loop-hop-preserved : goal.loop-hop-preserved
loop-hop-preserved c =
    let net = c.args.topology.now in
    let i : ℕ = c.loop-hop.hop-index in
    let hops : List Hop = c.ports-hop-items.result.now in
    let hop : Hop = get_or hops i past in
    let port = port_next net c.args.end i hops c.ports-hop-items.ensures c.loop-hop-test.true in
    let facts = port_facts net c.invariant.ensures.topology c.args.end i hop port in
    let near = c.loop-hop.invariant in
    let room : hop.node * 16 + c.args.lane < length c.loop-hop.lanes =
    omega (arith, facts.to, near.every, c.requires.lane) in
    near_written c.loop-hop.lanes hop.node c.args.lane hop.weight c.requires.lane room net
    (omega (arith, facts.bounded)) near
