use Rattle.std.proofs.Common.{◌≡◌, ◌<◌, ℕ, List, length, arith, subst, sym, ◌∙◌, false, get_or}
use Rattle.std.proofs.lemmas.List.{get_or_read}
use Rattle.ir_model.specs.declared.Hop.{Hop}
use Rattle.ir_model.specs.Topology.{Topology, ports_of}
use Rattle.ir_tables.specs.FromNode.{IsPassing}
use Rattle.ir_tables.proofs.Rounds.{past, port_next, node_next}
use Rattle.ir_tables.proofs.Flooding.{passing_start, passing_keep, passing_write}
use Rattle.ir_tables.proofs.outward.pass_on.Goals as goal
use Rattle.ir_tables.proofs.outward.pass_on.Goals.{then-is_tight+then-not-index+in_ok-push, else-is_tight, else-is_tight-via-then-is_tight+else-not-index, else-is_tight-via-else-is_tight}

pub loop-hop-init : goal.loop-hop-init
loop-hop-init c = passing_start c.args.topology.now c.args.weights.now c.args.x c.args.marks.now.items c.args.led.now.items c.requires.listed

pub loop-hop-preserved : goal.loop-hop-preserved
loop-hop-preserved c =
    let net : Topology = c.args.topology.now in
    let i : ℕ = c.loop-hop.hop-index in
    let hop : Hop = get_or c.ports-hop-items.result.now i past in
    let port = port_next net c.args.x i c.ports-hop-items.result.now c.ports-hop-items.ensures c.loop-hop-test.true in
    let node = node_next net c.invariant.ensures.topology c.args.x i c.ports-hop-items.result.now c.ports-hop-items.ensures c.loop-hop-test.true in
    let y_in : hop.node < length c.loop-hop.marks.items = let e = c.loop-hop.invariant.every in omega (arith, node, c.requires.marks, e) in
    elim c.if-is_tight.branch [
      | then-is_tight+then-not-index+in_ok-push w ↦
          rw (w.marks-is, w.led-is, w.in_ok-push.ensures.items)
          (passing_write net c.args.weights.now c.args.x i c.args.marks.now.items c.args.led.now.items c.loop-hop.marks.items c.loop-hop.led.items hop port c.loop-hop.invariant
          y_in (sym (get_or_read c.loop-hop.marks.items hop.node w.index.result.now y_in w.index.ensures false) ∙ w.if-not-index.true) (c.is_tight.ensures.0 w.if-is_tight.true))
      | else-is_tight w ↦
          rw (w.marks-is, w.led-is)
          (passing_keep net c.args.weights.now c.args.x i c.args.marks.now.items c.args.led.now.items c.loop-hop.marks.items c.loop-hop.led.items hop port c.loop-hop.invariant
          (λ tight. elim w.else-is_tight.branch [
            | else-is_tight-via-then-is_tight+else-not-index w' ↦ sym (get_or_read c.loop-hop.marks.items hop.node w'.index.result.now y_in w'.index.ensures false) ∙ w'.if-not-index.false
            | else-is_tight-via-else-is_tight w' ↦ let t = c.is_tight.ensures.1 tight in absurd (cc (t, w'.if-is_tight.false))
          ]))
    ]

pub is_tight-requires : goal.is_tight-requires
is_tight-requires c =
    let node = node_next c.args.topology.now c.invariant.ensures.topology c.args.x c.loop-hop.hop-index c.ports-hop-items.result.now c.ports-hop-items.ensures c.loop-hop-test.true in
    let same = c.requires.weights in
    omega (arith, node, same)

pub index-requires : goal.index-requires
index-requires c =
    let node = node_next c.args.topology.now c.invariant.ensures.topology c.args.x c.loop-hop.hop-index c.ports-hop-items.result.now c.ports-hop-items.ensures c.loop-hop-test.true in
    let same = c.requires.marks in
    let every = c.loop-hop.invariant.every in
    let len = c.loop-hop.marks.ok.0 in
    omega (arith, node, same, every, len)

pub index_mut-requires : goal.index_mut-requires
index_mut-requires c =
    let node = node_next c.args.topology.now c.invariant.ensures.topology c.args.x c.loop-hop.hop-index c.ports-hop-items.result.now c.ports-hop-items.ensures c.loop-hop-test.true in
    let same = c.requires.marks in
    let every = c.loop-hop.invariant.every in
    let len = c.loop-hop.marks.ok.0 in
    omega (arith, node, same, every, len)

pub returns : goal.returns
returns c =
    let net : Topology = c.args.topology.now in
    let P : List Hop → Type 0 = λ xs. c.loop-hop.hop-index ≡ length xs in
    let all : c.loop-hop.hop-index ≡ length (ports_of net c.args.x) = subst P c.ports-hop-items.ensures (omega (arith, c.loop-hop-test.false, c.loop-hop.auto.hop-index-end)) in
    subst (λ (k : ℕ). IsPassing net c.args.weights.now c.args.x k c.args.marks.now.items c.args.led.now.items c.loop-hop.marks.items c.loop-hop.led.items) all c.loop-hop.invariant
