use Rattle.std.proofs.Common.{◌<◌, ℕ, List, length, arith, ap, get_or}
use Rattle.std.proofs.lemmas.Option.{slice_get_within}
use Rattle.ir_model.specs.declared.Hop.{Hop}
use Rattle.ir_model.specs.Topology.{Topology, ports_of}
use Rattle.ir_model.proofs.Walks.{port_facts}
use Rattle.ir_tables.proofs.Rounds.{past, port_next}
use Rattle.ir_lanes.proofs.Starts.{added_small, beginning_more, beginning_done, beginning_none}
use Rattle.ir_lanes.proofs.outward.begin.Goals as goal

pub overflow_mul-starts : goal.overflow_mul-starts
overflow_mul-starts c =
    let i : ℕ = c.loop-p.p in
    let hops : List Hop = c.ports-hop-items.result.now in
    let port = port_next c.args.topology.now c.args.source i hops c.ports-hop-items.ensures c.loop-p-test.true in
    let small = added_small c.args.topology.now c.invariant.ensures.topology c.args.unit c.requires.unit c.args.source i (get_or hops i past) port in
    record { fits = omega (arith, small) }

pub overflow_add-starts : goal.overflow_add-starts
overflow_add-starts c =
    let i : ℕ = c.loop-p.p in
    let hops : List Hop = c.ports-hop-items.result.now in
    let port = port_next c.args.topology.now c.args.source i hops c.ports-hop-items.ensures c.loop-p-test.true in
    let small = added_small c.args.topology.now c.invariant.ensures.topology c.args.unit c.requires.unit c.args.source i (get_or hops i past) port in
    record { fits = omega (arith, small, c.loop-p-test.true, ap length c.ports-hop-items.ensures, c.requires.ports, c.requires.unit) }

pub bounds-starts-hop : goal.bounds-starts-hop
bounds-starts-hop c =
    let i : ℕ = c.loop-p.p in
    let hops : List Hop = c.ports-hop-items.result.now in
    let facts = port_facts c.args.topology.now c.invariant.ensures.topology c.args.source i (get_or hops i past) (port_next c.args.topology.now c.args.source i hops c.ports-hop-items.ensures c.loop-p-test.true) in
    let every = c.loop-p.invariant.near.every in
    omega (arith, facts.to, every, c.requires.lane)

pub loop-p-preserved : goal.loop-p-preserved
loop-p-preserved c =
    let net : Topology = c.args.topology.now in
    let i : ℕ = c.loop-p.p in
    let hops : List Hop = c.ports-hop-items.result.now in
    let hop : Hop = get_or hops i past in
    let port = port_next net c.args.source i hops c.ports-hop-items.ensures c.loop-p-test.true in
    let few = c.requires.ports in
    beginning_more net c.invariant.ensures.topology c.args.unit c.args.source c.args.lane i hop c.args.starts.now c.loop-p.starts c.requires.unit
    (omega (arith, c.loop-p-test.true, ap length c.ports-hop-items.ensures, few)) c.requires.lane port c.loop-p.invariant

pub returns-clause-begun : goal.returns-clause-begun
returns-clause-begun c =
    let net : Topology = c.args.topology.now in
    beginning_done net c.args.unit c.args.source c.args.lane c.loop-p.p c.args.starts.now c.loop-p.starts
    (λ p hop port. let lt : p < length (ports_of net c.args.source) = slice_get_within (ports_of net c.args.source) p hop port in
    omega (arith, lt, ap length c.ports-hop-items.ensures, c.loop-p-test.false))
    c.loop-p.invariant

pub bounds-hop-items-p : goal.bounds-hop-items-p
bounds-hop-items-p c = c.loop-p-test.true

pub loop-p-init : goal.loop-p-init
loop-p-init c = beginning_none c.args.topology.now c.args.unit c.args.source c.args.lane c.args.starts.now c.requires.near c.requires.empty

pub overflow_cast-starts : goal.overflow_cast-starts
overflow_cast-starts c = omega (arith, c.loop-p-test.true, ap length c.ports-hop-items.ensures, c.requires.ports, c.requires.unit)

pub returns-clause-near : goal.returns-clause-near
returns-clause-near c = c.loop-p.invariant.near

pub returns-clause-others : goal.returns-clause-others
returns-clause-others c = c.loop-p.invariant.others
