use Rattle.std.proofs.Common.{◌≡◌, ◌+◌, ◌<◌, ℕ, List, Some, refl, length, arith, ap, subst, slice_get, slice_index_or, get_or}
use Rattle.std.proofs.lemmas.Option.{slice_get_within, slice_get-get_or}
use Rattle.ir_model.specs.declared.Hop.{Hop}
use Rattle.ir_model.specs.Topology.{Topology, ports_of, port_at}
use Rattle.ir_model.proofs.Walks.{port_facts}
use Rattle.ir_tables.specs.Keys.{load, keys_waiting}
use Rattle.ir_tables.proofs.Rounds.{past}
use Rattle.ir_tables.proofs.KeySteps.{offering_lower, offering_keep, offering_done}
use Rattle.ir_tables.proofs.KeysOut.{port_small}
use Rattle.ir_tables.proofs.keyed.offer.Goals as goal
use Rattle.ir_tables.proofs.keyed.offer.Goals.{then-through-keys+in_ok-push, else-through-keys}

-- the port that the loop is at
port_here : (net : Topology) (x i : ℕ) (hops : List Hop) → hops ≡ ports_of net x → i < length hops → port_at net x i ≡ Some (slice_index_or hops i past)
port_here net x i hops is lt = subst (λ (xs : List Hop). slice_get xs i ≡ Some (slice_index_or hops i past)) is (slice_get-get_or hops i past lt)

pub step_key-requires-clause-port : goal.step_key-requires-clause-port
step_key-requires-clause-port c =
    let net : Topology = c.args.topology.now in
    port_small net c.invariant.ensures.topology c.args.x c.loop-p.p (slice_index_or c.ports-hop-items.result.now c.loop-p.p past)
    (port_here net c.args.x c.loop-p.p c.ports-hop-items.result.now c.ports-hop-items.ensures c.loop-p-test.true)

pub step_key-requires-clause-weight : goal.step_key-requires-clause-weight
step_key-requires-clause-weight c =
    let net : Topology = c.args.topology.now in
    let facts = port_facts net c.invariant.ensures.topology c.args.x c.loop-p.p (slice_index_or c.ports-hop-items.result.now c.loop-p.p past)
    (port_here net c.args.x c.loop-p.p c.ports-hop-items.result.now c.ports-hop-items.ensures c.loop-p-test.true) in
    omega (arith, facts.bounded)

pub bounds-keys-hop : goal.bounds-keys-hop
bounds-keys-hop c =
    let net : Topology = c.args.topology.now in
    let facts = port_facts net c.invariant.ensures.topology c.args.x c.loop-p.p (slice_index_or c.ports-hop-items.result.now c.loop-p.p past)
    (port_here net c.args.x c.loop-p.p c.ports-hop-items.result.now c.ports-hop-items.ensures c.loop-p-test.true) in
    omega (arith, facts.to, c.loop-p.invariant.but.ways.every)

pub loop-p-preserved : goal.loop-p-preserved
loop-p-preserved c =
    let net : Topology = c.args.topology.now in
    let i : ℕ = c.loop-p.p in
    let hop : Hop = slice_index_or c.ports-hop-items.result.now i past in
    let port : port_at net c.args.x i ≡ Some hop = port_here net c.args.x i c.ports-hop-items.result.now c.ports-hop-items.ensures c.loop-p-test.true in
    let own : ℕ = get_or c.args.keys.now c.args.x 0 in
    elim c.if-through-keys.branch [
      | then-through-keys+in_ok-push w ↦
          rw (w.keys-is, w.frontier-is) (offering_lower net c.invariant.ensures.topology c.args.u c.args.x own c.args.keys.now (load c.args.frontier.now) c.loop-p.keys (keys_waiting c.loop-p.frontier) (keys_waiting w.push.new.self) (load c.loop-p.frontier) (load w.push.new.self) i
          (own + c.step_key.result) c.step_key.result hop port c.step_key.ensures refl w.if-through-keys.true w.in_ok-push.ensures.waits w.in_ok-push.ensures.load c.loop-p.invariant)
      | else-through-keys w ↦
          rw (w.keys-is, w.frontier-is) (offering_keep net c.args.u c.args.x own c.args.keys.now (load c.args.frontier.now) c.loop-p.keys (keys_waiting c.loop-p.frontier) (load c.loop-p.frontier) i
          c.step_key.result hop port c.step_key.ensures w.if-through-keys.false c.loop-p.invariant)
    ]

pub returns-clause-offered : goal.returns-clause-offered
returns-clause-offered c =
    offering_done c.args.topology.now c.args.u c.args.x (get_or c.args.keys.now c.args.x 0) c.args.keys.now (load c.args.frontier.now) c.loop-p.keys (keys_waiting c.loop-p.frontier) (load c.loop-p.frontier) c.loop-p.p c.loop-p.invariant
    (λ p hop port. let lt : p < length (ports_of c.args.topology.now c.args.x) = slice_get_within (ports_of c.args.topology.now c.args.x) p hop port in
    omega (arith, lt, ap length c.ports-hop-items.ensures, c.loop-p-test.false))

pub returns-clause-falls : goal.returns-clause-falls
returns-clause-falls c = c.loop-p.invariant.falls

pub bounds-keys-hop-then-through-keys : goal.bounds-keys-hop-then-through-keys
bounds-keys-hop-then-through-keys c =
    let net : Topology = c.args.topology.now in
    let facts = port_facts net c.invariant.ensures.topology c.args.x c.loop-p.p (slice_index_or c.ports-hop-items.result.now c.loop-p.p past)
    (port_here net c.args.x c.loop-p.p c.ports-hop-items.result.now c.ports-hop-items.ensures c.loop-p-test.true) in
    omega (arith, facts.to, c.loop-p.invariant.but.ways.every)

pub loop-p-init : goal.loop-p-init
loop-p-init c = record { but = c.requires.so_far; kept = refl; spent = λ p hop added lt port step. absurd (omega (arith, lt)); falls = omega arith }
