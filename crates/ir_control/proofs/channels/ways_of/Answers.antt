use Rattle.std.specs.Prelude.{ℕ, ◌≡◌, ◌+◌, List, length}
use Rattle.std.proofs.Common.{arith, ap, ◌∙◌}
use Rattle.std.proofs.lemmas.List.{length_push}
use Rattle.ir_model.specs.declared.Hop.{Hop}
use Rattle.ir_model.specs.Topology.{node_count}
use Rattle.ir_links.specs.Ends.{Channel}
use Rattle.ir_epochs.specs.declared.registry.Stamp.{Stamp}
use Rattle.ir_worker.specs.declared.parcel.Place.{Place}
use Rattle.ir_control.specs.Places.{offset}
use Rattle.ir_control.specs.Wired.{IsNetChannel}
use Rattle.ir_control.proofs.Rows.{filled_none, filled_all, place_more}
use Rattle.ir_control.proofs.channels.ways_of.Goals as goal

abbrev has_way : Stamp → ℕ → ℕ → ℕ → Hop → Channel Place → Type 0
has_way opening restamps capacity v hop channel = IsNetChannel opening restamps capacity v hop.node channel

pub loop-u-init : goal.loop-u-init
loop-u-init c = (
  ap (λ (xs : List ℕ). length xs) c.in_ok-offsets.ensures.items,
  λ v lt. absurd (omega (arith, lt)),
  filled_none c.args.topology.now (has_way c.args.terms.now.opening.now c.args.terms.now.restamps c.args.terms.now.capacity) c.new-ways.result.items c.new-ways.ensures.items,
)

pub returns-clause-ways : goal.returns-clause-ways
returns-clause-ways c =
    let least = c.loop-u-test.false in
    let most = c.loop-u.auto.u-end in
    let nodes : c.nodes-nodes.result ≡ node_count c.args.topology.now = c.nodes-nodes.ensures.count in
    filled_all c.args.topology.now (has_way c.args.terms.now.opening.now c.args.terms.now.restamps c.args.terms.now.capacity) c.loop-u.u c.loop-u.ways.items (omega (arith, least, most, nodes)) c.loop-u.invariant.2

pub returns-clause-fits : goal.returns-clause-fits
returns-clause-fits c =
    let small = c.loop-u.ways.small in
    let kept = c.loop-u.ways.ok in
    let least = c.loop-u-test.false in
    let most = c.loop-u.auto.u-end in
    let nodes : c.nodes-nodes.result ≡ node_count c.args.topology.now = c.nodes-nodes.ensures.count in
    let filled = filled_all c.args.topology.now (has_way c.args.terms.now.opening.now c.args.terms.now.restamps c.args.terms.now.capacity) c.loop-u.u c.loop-u.ways.items (omega (arith, least, most, nodes)) c.loop-u.invariant.2 in
    let len = filled.len in
    omega (arith, small, kept, len)

pub returns-clause-offsets : goal.returns-clause-offsets
returns-clause-offsets c =
    let least = c.loop-u-test.false in
    let most = c.loop-u.auto.u-end in
    let nodes : c.nodes-nodes.result ≡ node_count c.args.topology.now = c.nodes-nodes.ensures.count in
    let at : c.loop-u.u ≡ node_count c.args.topology.now = omega (arith, least, most, nodes) in
    record { count = c.loop-u.invariant.0 ∙ at; each = λ v lt. c.loop-u.invariant.1 v (omega (arith, lt, at)) }

pub loop-u-preserved : goal.loop-u-preserved
loop-u-preserved c =
    let n = c.loop-u.invariant.0 in
    let e = c.in_ok-push.ensures.items in
    let filled = c.loop-u.invariant.2.len in
    let ok = c.loop-u.ways.ok in
    let len = c.len.ensures in (
      ap (λ (xs : List ℕ). length xs) e ∙ length_push c.loop-u.offsets.items c.len.result ∙ ap (λ (k : ℕ). k + 1) n,
      place_more (offset c.args.topology.now) c.loop-u.offsets.items c.push.new.self.items c.loop-u.u c.len.result n (omega (arith, filled, ok, len)) e c.loop-u.invariant.1,
      c.in_ok-add_ways.ensures,
    )
