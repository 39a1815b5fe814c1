use Rattle.std.proofs.Common.{ℕ, length, arith, None, subst, sym, ◌∙◌}
use Rattle.std.specs.Prelude.{slice_index}
use Rattle.ir_model.specs.Walk.{Linked}
use Rattle.ir_numbering.specs.Cells.{IsTreeCell}
use Rattle.ir_numbering.proofs.Cells.{own_cell, root_cell, son_cell, other_cell}
use Rattle.ir_numbering.proofs.Nested.{depth_first_nests}
use Rattle.ir_numbering.proofs.Ways.{parent_linked}
use Rattle.ir_numbering.proofs.tree.next_port.Goals as goal

pub returns-then-place-own : goal.returns-then-place-own
returns-then-place-own c =
    subst (λ (k : ℕ). IsTreeCell c.args.topology.now c.args.order.now c.args.parents.now c.args.own k None) (sym c.if-place-own.true)
    (own_cell c.args.topology.now c.invariant.ensures.topology c.args.order.now c.args.parents.now c.requires.order c.args.own c.requires.own)

pub returns-then-place-eq0 : goal.returns-then-place-eq0
returns-then-place-eq0 c =
    let ne = c.if-place-own.false in
    let z = c.if-place-eq0.true in
    subst (λ (k : ℕ). IsTreeCell c.args.topology.now c.args.order.now c.args.parents.now c.args.own k c.args.up) (sym c.if-place-eq0.true)
    (root_cell c.args.topology.now c.invariant.ensures.topology c.args.order.now c.args.parents.now c.requires.order c.args.own c.requires.own c.args.up c.requires.up (λ e. ne (z ∙ e)))

pub port_to_neighbor-requires : goal.port_to_neighbor-requires
port_to_neighbor-requires c =
    let z = c.if-place-eq0.false in
    subst (λ (k : ℕ). Linked c.args.topology.now (slice_index c.args.order.now k) (slice_index c.args.order.now (length c.args.before.now))) c.if-parent-own.true
    (parent_linked c.args.topology.now c.invariant.ensures.topology (slice_index c.args.order.now 0) c.args.order.now c.args.parents.now c.requires.order (length c.args.before.now) (omega arith) c.requires.before)

pub returns-then-parent-own : goal.returns-then-parent-own
returns-then-parent-own c =
    let z = c.if-place-eq0.false in
    son_cell c.args.topology.now c.invariant.ensures.topology c.args.order.now c.args.parents.now c.requires.order c.args.own c.requires.own
    (length c.args.before.now) (omega arith) c.requires.before c.if-parent-own.true c.port_to_neighbor.result c.port_to_neighbor.ensures

pub returns : goal.returns
returns c =
    let z = c.if-place-eq0.false in
    let nest = depth_first_nests _ _ _ c.args.order.now c.args.parents.now c.requires.order in
    let low = nest.lower (length c.args.before.now) (omega arith) c.requires.before in
    other_cell c.args.topology.now c.invariant.ensures.topology c.args.order.now c.args.parents.now c.requires.order c.args.own c.requires.own
    (length c.args.before.now) (omega arith) c.requires.before c.if-place-own.false c.if-parent-own.false _ (c.requires.cells.each _ low)
