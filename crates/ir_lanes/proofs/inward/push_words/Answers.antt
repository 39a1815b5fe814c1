use Rattle.std.proofs.Common.{◌≡◌, ◌↔◌, ◌<◌, ◌+◌, ◌*◌, ℕ, List, length, arith, ap, sym, subst, slice_index, get_or}
use Rattle.ir_model.specs.declared.Hop.{Hop}
use Rattle.ir_model.specs.Topology.{Topology, ports_of}
use Rattle.ir_model.proofs.Walks.{port_facts}
use Rattle.ir_tables.proofs.Rounds.{past, port_next}
use Rattle.ir_lanes.specs.Inward.{IsPushing, IsSet, IsTightIn}
use Rattle.ir_lanes.specs.Lanes.{HasLanes, AreLeastOffers}
use Rattle.ir_lanes.proofs.LaneLemmas.{least_none, least_next}
use Rattle.ir_lanes.proofs.Words.{pushing_none, pushing_more}
use Rattle.ir_lanes.proofs.inward.push_words.Goals as goal

pub loop-hop-init : goal.loop-hop-init
loop-hop-init c = record {
  pushing = pushing_none c.args.topology.now c.args.lanes.now c.args.u c.args.words.now.items;
  least = least_none (ports_of c.args.topology.now c.args.u) 1 c.args.lanes.now;
}

pub load-there-requires : goal.load-there-requires
load-there-requires c =
    let i : ℕ = c.loop-hop.hop-index in
    let hops : List Hop = c.ports-hop-items.result.now in
    let facts = port_facts c.args.topology.now c.invariant.ensures.topology c.args.u i (get_or hops i past) (port_next c.args.topology.now c.args.u i hops c.ports-hop-items.ensures c.loop-hop-test.true) in
    let every = c.requires.near.every in
    omega (arith, facts.to, every)

pub farther-through-requires-clause-light : goal.farther-through-requires-clause-light
farther-through-requires-clause-light c =
    let i : ℕ = c.loop-hop.hop-index in
    let hops : List Hop = c.ports-hop-items.result.now in
    let facts = port_facts c.args.topology.now c.invariant.ensures.topology c.args.u i (get_or hops i past) (port_next c.args.topology.now c.args.u i hops c.ports-hop-items.ensures c.loop-hop-test.true) in
    omega (arith, facts.bounded)

pub loop-hop-preserved : goal.loop-hop-preserved
loop-hop-preserved c =
    let net : Topology = c.args.topology.now in
    let lanes : List ℕ = c.args.lanes.now in
    let u : ℕ = c.args.u in
    let i : ℕ = c.loop-hop.hop-index in
    let hops : List Hop = c.ports-hop-items.result.now in
    let hop : Hop = get_or hops i past in
    let port = port_next net u i hops c.ports-hop-items.ensures c.loop-hop-test.true in
    let own = c.load-own.ensures in
    let there = c.load-there.ensures in
    let through = c.farther-through.ensures in
    let bits : (k : ℕ) → k < 16 → IsSet c.same_lanes.result k ↔ IsTightIn lanes k u hop =
    λ k l. let same = c.same_lanes.ensures k l in (
      (λ set. omega (arith, same.0 set, own.each k l, through.each k l, there.each k l)),
      (λ tight. same.1 (omega (arith, tight, own.each k l, through.each k l, there.each k l))),
    ) in
    let added : HasLanes c.farther-through.result (λ k. hop.weight * 1 + slice_index c.load-there.result k) =
    record { long = through.long; each = λ k l. omega (arith, through.each k l) } in
    record {
      pushing = subst (λ (xs : List ℕ). IsPushing net lanes u (i + 1) c.args.words.now.items xs) (sym c.in_ok-push.ensures.items)
          (pushing_more net lanes u i c.args.words.now.items c.loop-hop.words.items hop c.same_lanes.result port bits c.loop-hop.invariant.pushing);
      least = least_next (ports_of net u) 1 i lanes c.loop-hop.least c.load-there.result c.farther-through.result c.lesser-least.result hop
          port there added c.lesser-least.ensures c.loop-hop.invariant.least;
    }

pub is_least-requires-clause-offered : goal.is_least-requires-clause-offered
is_least-requires-clause-offered c =
    let ports : List Hop = ports_of c.args.topology.now c.args.u in
    let long = ap length c.ports-hop-items.ensures in
    let whole : c.loop-hop.hop-index ≡ length ports = omega (arith, long, c.loop-hop-test.false, c.loop-hop.auto.hop-index-end) in
    subst (λ (i : ℕ). AreLeastOffers ports 1 i c.args.lanes.now c.loop-hop.least) whole c.loop-hop.invariant.least

pub returns-clause-pushed : goal.returns-clause-pushed
returns-clause-pushed c =
    let long = ap length c.ports-hop-items.ensures in
    let whole : c.loop-hop.hop-index ≡ length (ports_of c.args.topology.now c.args.u) = omega (arith, long, c.loop-hop-test.false, c.loop-hop.auto.hop-index-end) in
    subst (λ (i : ℕ). IsPushing c.args.topology.now c.args.lanes.now c.args.u i c.args.words.now.items c.loop-hop.words.items) whole c.loop-hop.invariant.pushing

pub load-own-requires : goal.load-own-requires
load-own-requires c = omega (arith, c.requires.node, c.requires.near.every)

pub overflow_mul-u : goal.overflow_mul-u
overflow_mul-u c = record { fits = omega (arith, c.requires.node, c.invariant.ensures.topology.few_nodes) }

pub bounds-hop-items-hop-index : goal.bounds-hop-items-hop-index
bounds-hop-items-hop-index c = c.loop-hop-test.true

pub overflow_mul-hop : goal.overflow_mul-hop
overflow_mul-hop c =
    let i : ℕ = c.loop-hop.hop-index in
    let hops : List Hop = c.ports-hop-items.result.now in
    let ok = c.invariant.ensures.topology in
    let facts = port_facts c.args.topology.now ok c.args.u i (get_or hops i past) (port_next c.args.topology.now c.args.u i hops c.ports-hop-items.ensures c.loop-hop-test.true) in
    record { fits = omega (arith, facts.to, ok.few_nodes) }

pub farther-through-requires-clause-long : goal.farther-through-requires-clause-long
farther-through-requires-clause-long c = c.load-there.ensures.long

pub farther-through-requires-clause-near : goal.farther-through-requires-clause-near
farther-through-requires-clause-near c k k_in =
    let hop : Hop = get_or c.ports-hop-items.result.now c.loop-hop.hop-index past in
    omega (arith, c.load-there.ensures.each k k_in, c.requires.near.near (hop.node * 16 + k))

pub same_lanes-requires-clause-left : goal.same_lanes-requires-clause-left
same_lanes-requires-clause-left c = c.load-own.ensures.long

pub same_lanes-requires-clause-right : goal.same_lanes-requires-clause-right
same_lanes-requires-clause-right c = c.farther-through.ensures.long

pub lesser-least-requires-clause-left : goal.lesser-least-requires-clause-left
lesser-least-requires-clause-left c = c.loop-hop.invariant.least.long

pub lesser-least-requires-clause-right : goal.lesser-least-requires-clause-right
lesser-least-requires-clause-right c = c.farther-through.ensures.long

pub is_least-requires-clause-node : goal.is_least-requires-clause-node
is_least-requires-clause-node c = c.requires.node

pub is_least-requires-clause-starts : goal.is_least-requires-clause-starts
is_least-requires-clause-starts c = c.requires.starts

pub is_least-requires-clause-lanes : goal.is_least-requires-clause-lanes
is_least-requires-clause-lanes c = c.requires.near

pub returns-clause-met : goal.returns-clause-met
returns-clause-met c = c.is_least.ensures
