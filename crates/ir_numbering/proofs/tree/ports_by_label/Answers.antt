use Rattle.std.proofs.Common.{◌≡◌, ◌++◌, ◌∷◌, [], ℕ, List, length, Option, subst, ap, ◌∙◌, sym, arith}
use Rattle.std.proofs.lemmas.Result.{IfOk-from_err}
use Rattle.ir_numbering.specs.Cells.{IsTreeCell, AreTreeCells}
use Rattle.ir_numbering.proofs.Cells.{cell_added}
use Rattle.ir_model.specs.Topology.{node_count}
use Rattle.ir_numbering.proofs.tree.ports_by_label.Goals as goal

pub loop-place-preserved : goal.loop-place-preserved
loop-place-preserved c =
    let items : c.push.new.self.items ≡ c.loop-place.ports.items ++ c.next_port-port.result ∷ [] = c.in_ok-push.ensures.items in
    let every = c.loop-place.invariant.every in
    let long : length c.as_slice.result.now ≡ c.loop-place._place = ap (λ (xs : List (Option ℕ)). length xs) c.as_slice.ensures.value ∙ every in
    let cell = subst (λ (k : ℕ). IsTreeCell c.args.topology.now c.args.order.now c.args.parents.now c.args.own k c.next_port-port.result) long c.next_port-port.ensures in
    rw items (cell_added c.args.topology.now c.args.order.now c.args.parents.now c.args.own c.loop-place._place c.loop-place.ports.items c.next_port-port.result c.loop-place.invariant cell)

pub loop-place-init : goal.loop-place-init
loop-place-init c = record {
  every = ap (λ (xs : List (Option ℕ)). length xs) c.in_ok-ports.ensures.items;
  each = λ i none. absurd (omega (arith, none));
}

pub next_port-port-requires-clause-order : goal.next_port-port-requires-clause-order
next_port-port-requires-clause-order c = c.requires.order

pub next_port-port-requires-clause-own : goal.next_port-port-requires-clause-own
next_port-port-requires-clause-own c = c.requires.own

pub next_port-port-requires-clause-up : goal.next_port-port-requires-clause-up
next_port-port-requires-clause-up c = c.requires.up

pub next_port-port-requires-clause-before : goal.next_port-port-requires-clause-before
next_port-port-requires-clause-before c =
    let long = ap (λ (xs : List (Option ℕ)). length xs) c.as_slice.ensures.value in
    omega (arith, long, c.loop-place.invariant.every, c.loop-place-test.true, c.nodes-place-end.ensures.count)

pub next_port-port-requires-clause-cells : goal.next_port-port-requires-clause-cells
next_port-port-requires-clause-cells c =
    let i = c.loop-place.invariant in
    rw c.as_slice.ensures.value
    (subst (λ (k : ℕ). AreTreeCells c.args.topology.now c.args.order.now c.args.parents.now c.args.own k c.loop-place.ports.items) (sym i.every) i)

pub returns : goal.returns
returns c =
    let all : c.loop-place._place ≡ node_count c.args.topology.now = omega (arith, c.loop-place-test.false, c.loop-place.auto._place-end, c.nodes-place-end.ensures.count) in
    subst (λ (k : ℕ). AreTreeCells c.args.topology.now c.args.order.now c.args.parents.now c.args.own k c.loop-place.ports.items) all c.loop-place.invariant

pub returns-in_err-ports : goal.returns-in_err-ports
returns-in_err-ports c = IfOk-from_err c.from_residual.result _ c.from_residual.ensures.0

pub returns-in_err-push : goal.returns-in_err-push
returns-in_err-push c = IfOk-from_err c.from_residual-in_err-push.result _ c.from_residual-in_err-push.ensures.0
