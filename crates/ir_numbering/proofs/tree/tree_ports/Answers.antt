use Rattle.std.proofs.Common.{ℕ, List, Option, length, arith, ap, subst, ◌∙◌, ◌<◌, None, sym}
use Rattle.std.proofs.lemmas.List.{get_or_default}
use Rattle.std.specs.Prelude.{slice_index_or}
use Rattle.ir_numbering.specs.Cells.{AreTreeRows}
use Rattle.ir_numbering.proofs.Cells.{row_added}
use Rattle.ir_model.specs.Topology.{node_count}
use Rattle.ir_numbering.specs.Numbering.{IsParentPort}
use Rattle.ir_numbering.proofs.tree.tree_ports.Goals as goal

pub loop-u-init : goal.loop-u-init
loop-u-init c = rw c.new-ports.ensures.items (record { every = omega arith; each = λ u d none l. absurd (omega (arith, none)) })

pub push_by_node-requires : goal.push_by_node-requires
push_by_node-requires c =
    let long = ap (λ (xs : List (Option ℕ)). length xs) c.as_slice.ensures.value ∙ c.in_ok-row.ensures.every in
    let every = c.requires.labels.every_node in
    λ k d l.
    let at = get_or_default c.args.labels.now k 0 d l in
    let label = c.requires.labels.label k (omega (arith, l, every)) in
    omega (arith, at, label, long)

pub loop-u-preserved : goal.loop-u-preserved
loop-u-preserved c =
    let n = c.nodes-u-end.ensures.count in
    let test = c.loop-u-test.true in
    let items = rw c.as_slice.ensures.value at c.in_ok-push_by_node.ensures in
    rw items (row_added c.args.topology.now c.args.order.now c.args.parents.now c.args.labels.now c.requires.labels c.loop-u.u c.loop-u.ports.items c.in_ok-row.row.items (omega arith) c.loop-u.invariant c.in_ok-row.ensures)

pub returns : goal.returns
returns c =
    let n = c.nodes-u-end.ensures.count in
    let least = c.loop-u-test.false in
    let most = c.loop-u.auto.u-end in
    subst (λ (rows : ℕ). AreTreeRows c.args.topology.now c.args.order.now c.args.parents.now c.args.labels.now rows c.loop-u.ports.items) (omega (arith, least, most, n)) c.loop-u.invariant

pub bounds-labels-u : goal.bounds-labels-u
bounds-labels-u c = omega (arith, c.loop-u-test.true, c.nodes-u-end.ensures.count, c.requires.labels.every_node)

pub bounds-ups-u : goal.bounds-ups-u
bounds-ups-u c = omega (arith, c.loop-u-test.true, c.nodes-u-end.ensures.count, c.requires.ups.every_node)

pub ports_by_label-requires-clause-order : goal.ports_by_label-requires-clause-order
ports_by_label-requires-clause-order c = c.requires.order

pub ports_by_label-requires-clause-own : goal.ports_by_label-requires-clause-own
ports_by_label-requires-clause-own c = c.requires.labels.label c.loop-u.u (omega (arith, c.loop-u-test.true, c.nodes-u-end.ensures.count))

pub ports_by_label-requires-clause-up : goal.ports_by_label-requires-clause-up
ports_by_label-requires-clause-up c =
    let within : c.loop-u.u < node_count c.args.topology.now = omega (arith, c.loop-u-test.true, c.nodes-u-end.ensures.count) in
    subst (λ (v : ℕ). IsParentPort c.args.topology.now c.args.order.now c.args.parents.now v (slice_index_or c.args.ups.now c.loop-u.u None))
    (sym (c.requires.labels.there c.loop-u.u within)) (c.requires.ups.each c.loop-u.u within)
