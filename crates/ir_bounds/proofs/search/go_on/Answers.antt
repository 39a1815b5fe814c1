use Rattle.std.proofs.Common.{◌≡◌, ◌∙◌, ◌+◌, ◌<◌, ℕ, false, true, List, length, refl, sym, ap, arith, get_or}
use Rattle.std.proofs.lemmas.Option.{slice_get_within}
use Rattle.std.specs.BinaryHeap.{heap_items}
use Rattle.ir_model.specs.declared.Hop.{Hop}
use Rattle.ir_model.specs.Topology.{Topology, ports_of}
use Rattle.ir_tables.proofs.Rounds.{past, port_next}
use Rattle.ir_bounds.proofs.Searching.{offering_lower, offering_keep, offering_done}
use Rattle.ir_bounds.proofs.search.go_on.Goals as goal
use Rattle.ir_bounds.proofs.search.go_on.Goals.{then-is_better+in_ok-push, else-is_better}

pub loop-hop-preserved : goal.loop-hop-preserved
loop-hop-preserved c =
    let net : Topology = c.args.topology.now in
    let i : ℕ = c.loop-hop.hop-index in
    let hop : Hop = get_or c.ports-hop-items.result.now i past in
    let port = port_next net c.args.x i c.ports-hop-items.result.now c.ports-hop-items.ensures c.loop-hop-test.true in
    let own : ℕ = get_or c.args.weights.now c.args.x 0 in
    elim c.if-is_better.branch [
      | then-is_better+in_ok-push w ↦
          rw (w.weights-is, w.waiting-is)
          (offering_lower net c.invariant.ensures.topology c.args.u c.args.x own c.args.reaches.now c.args.weights.now (length (heap_items c.args.waiting.now)) c.loop-hop.weights (heap_items c.loop-hop.waiting) (heap_items w.push.new.self) i
          (own + hop.weight) hop port refl (c.is_better.ensures.0 w.if-is_better.true).0 w.in_ok-push.ensures.permutation c.loop-hop.invariant)
      | else-is_better w ↦
          rw (w.weights-is, w.waiting-is)
          (offering_keep net c.args.u c.args.x own c.args.reaches.now c.args.weights.now (length (heap_items c.args.waiting.now)) c.loop-hop.weights (heap_items c.loop-hop.waiting) i hop port
          (λ both. (let bad : false ≡ true = sym w.if-is_better.false ∙ c.is_better.ensures.1 both in cc bad)) c.loop-hop.invariant)
    ]

pub returns-clause-on : goal.returns-clause-on
returns-clause-on c =
    offering_done c.args.topology.now c.args.u c.args.x (get_or c.args.weights.now c.args.x 0) c.args.reaches.now c.args.weights.now (length (heap_items c.args.waiting.now)) c.loop-hop.weights (heap_items c.loop-hop.waiting) c.loop-hop.hop-index
    c.loop-hop.invariant
    (λ p hop port. (let lt : p < length (ports_of c.args.topology.now c.args.x) = slice_get_within (ports_of c.args.topology.now c.args.x) p hop port in
    omega (arith, lt, ap length c.ports-hop-items.ensures, c.loop-hop-test.false)))
