use Rattle.std.proofs.Common.{◌≡◌, ◌<◌, true, false, length, replicate, refl, sym, ◌∙◌, arith, rules}
use Rattle.std.specs.Prelude.{slice_index}
use Rattle.std.proofs.lemmas.Bool.{eqb-true, eq-eqb}
use Rattle.std.proofs.lemmas.List.{get_or_default}
use Rattle.ir_numbering.proofs.Placing.{placing_start, placing_more, placing_done}
use Rattle.ir_numbering.proofs.order.is_order.Goals as goal
use Rattle.ir_numbering.proofs.order.is_order.Goals.{then-u-nodes-via-then-u-nodes, then-u-nodes-via-else-u-nodes+then-index}

pub loop-u-init : goal.loop-u-init
loop-u-init c =
    let marks : c.in_ok-placed.placed.items ≡ replicate c.args.nodes false = c.in_ok-placed.ensures.items_if_clones_equal (λ y h. search rules) in
    rw marks (placing_start c.args.nodes c.args.order.now)

pub loop-u-preserved : goal.loop-u-preserved
loop-u-preserved c =
    let free = rw c.if-index.false at c.index.ensures in
    placing_more c.args.nodes c.loop-u.u-index (slice_index c.args.order.now c.loop-u.u-index) c.args.order.now c.loop-u.placed.items refl c.if-u-nodes.false (sym free) c.loop-u.invariant

pub returns-then-u-nodes : goal.returns-then-u-nodes
returns-then-u-nodes c = (
  λ t. absurd (cc t),
  λ listing.
      let u = listing.nodes c.loop-u.u-index 0 c.loop-u-test.true in
      absurd (elim c.then-u-nodes.branch [
        | then-u-nodes-via-then-u-nodes w ↦ omega (arith, u, w.if-u-nodes.true)
        | then-u-nodes-via-else-u-nodes+then-index w ↦
            let is = rw w.if-index.true at w.index.ensures in
            let every = c.loop-u.invariant.every in
            let in_range : slice_index c.args.order.now c.loop-u.u-index < length c.loop-u.placed.items = omega (arith, u, every) in
            let a = c.loop-u.invariant.marked (slice_index c.args.order.now c.loop-u.u-index) (get_or_default c.loop-u.placed.items _ false true in_range ∙ sym is) in
            listing.once a.0 c.loop-u.u-index 0 a.1 c.loop-u-test.true a.2
      ]),
)

pub returns : goal.returns
returns c =
    let end = c.loop-u-test.false in
    let most = c.loop-u.auto.u-index-end in (
      λ t.
          let e = eqb-true (length c.args.order.now) c.args.nodes t in
          placing_done c.args.nodes c.loop-u.u-index c.args.order.now c.loop-u.placed.items (omega (arith, end, most)) (omega (arith, e)) c.loop-u.invariant,
      λ listing. eq-eqb (length c.args.order.now) c.args.nodes listing.every,
    )
