use Rattle.std.proofs.Common.{◌≡◌, ◌+◌, ◌<◌, ◌++◌, ◌∷◌, [], ℕ, List, Some, length, slice_get, arith, sym, ap, subst, ◌∙◌}
use Rattle.std.proofs.lemmas.List.{get_or_read, length_push}
use Rattle.ir_model.specs.declared.Hop.{Hop}
use Rattle.ir_model.specs.Topology.{Topology, node_count, port_at}
use Rattle.ir_model.proofs.Walks.{degree_bound, port_facts}
use Rattle.ir_tables.specs.Relaxation.{at, IsRelaxed}
use Rattle.ir_tables.proofs.Settled.{no_walk, IsEntry, entry_here, entries_push, column_done}
use Rattle.ir_tables.proofs.table.shortest_column.Goals as goal

pub returns-then-own-clause-none : goal.returns-then-own-clause-none
returns-then-own-clause-none c =
    let done : IsRelaxed c.args.topology.now c.args.d c.in_ok-weights.weights.items = c.in_ok-weights.ensures in
    let in_net : c.loop-u.u < node_count c.args.topology.now = omega (arith, c.nodes-nodes.ensures.count) in
    let read : c.index-own.result.now ≡ at c.in_ok-weights.weights.items c.loop-u.u = get_or_read c.in_ok-weights.weights.items c.loop-u.u c.index-own.result.now (omega (arith, in_net, done.len)) c.index-own.ensures 0 in
    (c.loop-u.u, in_net, no_walk c.args.topology.now c.nodes-nodes.ensures.topology c.args.d c.in_ok-weights.weights.items done c.loop-u.u (omega (arith, read, c.if-own.true)))

pub first_port-requires-clause-few : goal.first_port-requires-clause-few
first_port-requires-clause-few c =
    rw c.ports.ensures (omega (arith, degree_bound c.args.topology.now c.nodes-nodes.ensures.topology c.loop-u.u, c.nodes-nodes.ensures.topology.few_nodes))

pub loop-u-preserved : goal.loop-u-preserved
loop-u-preserved c =
    let ws : List ℕ = c.in_ok-weights.weights.items in
    let net : Topology = c.args.topology.now in
    let u : ℕ = c.loop-u.u in
    let done : IsRelaxed net c.args.d ws = c.in_ok-weights.ensures in
    let in_net : u < node_count net = omega (arith, c.nodes-nodes.ensures.count) in
    let read : c.index-own.result.now ≡ at ws u = get_or_read ws u c.index-own.result.now (omega (arith, in_net, done.len)) c.index-own.ensures 0 in
    let items : c.push.new.self.items ≡ c.loop-u.ports.items ++ c.first_port.result ∷ [] = c.in_ok-push.ensures.items in
    let found = rw (c.ports.ensures, c.as_slice.ensures.value, read) at c.first_port.ensures.found in
    let least = rw (c.ports.ensures, c.as_slice.ensures.value, read) at c.first_port.ensures.least in
    let none = rw (c.ports.ensures, c.as_slice.ensures.value, read) at c.first_port.ensures.none in
    let here : IsEntry net c.args.d ws u c.first_port.result =
    entry_here net c.nodes-nodes.ensures.topology c.args.d ws done u in_net (omega (arith, read, c.if-own.false)) c.first_port.result found least none in
    rw items (record {
      len = length_push c.loop-u.ports.items c.first_port.result ∙ ap (λ k. k + 1) c.loop-u.invariant.len;
      entries = entries_push net c.args.d ws c.loop-u.ports.items u c.first_port.result c.loop-u.invariant.len c.loop-u.invariant.entries here;
    })

pub returns-clause-column : goal.returns-clause-column
returns-clause-column c =
    let all : c.loop-u.u ≡ node_count c.args.topology.now = omega (arith, c.nodes-nodes.ensures.count) in
    column_done c.args.topology.now c.nodes-nodes.ensures.topology c.args.d c.requires c.in_ok-weights.weights.items c.loop-u.ports.items c.in_ok-weights.ensures (c.loop-u.invariant.len ∙ all)
    (λ v lt. c.loop-u.invariant.entries v (omega (arith, all, lt)))

pub first_port-requires-clause-in_range : goal.first_port-requires-clause-in_range
first_port-requires-clause-in_range c = λ p hop is.
    let done : IsRelaxed c.args.topology.now c.args.d c.in_ok-weights.weights.items = c.in_ok-weights.ensures in
    let at_port : port_at c.args.topology.now c.loop-u.u p ≡ Some hop = subst (λ (hops : List Hop). slice_get hops p ≡ Some hop) c.ports.ensures is in
    subst (λ (n : ℕ). hop.node < n) (sym (ap length c.as_slice.ensures.value ∙ done.len)) (port_facts c.args.topology.now c.nodes-nodes.ensures.topology c.loop-u.u p hop at_port).to

pub index-own-requires : goal.index-own-requires
index-own-requires c =
    let done : IsRelaxed c.args.topology.now c.args.d c.in_ok-weights.weights.items = c.in_ok-weights.ensures in
    subst (λ (n : ℕ). c.loop-u.u < n) (c.nodes-nodes.ensures.count ∙ sym done.len ∙ sym c.in_ok-weights.weights.ok.0) c.loop-u-test.true

pub loop-u-init : goal.loop-u-init
loop-u-init c = record { len = ap length c.in_ok-ports.ensures.items; entries = λ v lt. absurd (omega (arith, lt)) }
