use Rattle.std.proofs.Common.{◌≡◌, ◌++◌, ◌∷◌, [], arith, None, ap, ℕ, List, Option, length}
use Rattle.std.proofs.lemmas.List.{length_push}
use Rattle.std.proofs.lemmas.Result.{IfOk-from_err}
use Rattle.ir_numbering.specs.Numbering.{IsParentPort}
use Rattle.ir_numbering.proofs.Lists.{each_push}
use Rattle.ir_numbering.proofs.parents.parent_ports.Goals as goal

pub loop-u-preserved : goal.loop-u-preserved
loop-u-preserved c =
    let items : c.push.new.self.items ≡ c.loop-u.ports.items ++ c.parent_port.result ∷ [] = c.in_ok-push.ensures.items in
    let len = length_push c.loop-u.ports.items c.parent_port.result in
    let every = c.loop-u.invariant.every in
    rw items (record {
      every = omega arith;
      each = each_push (IsParentPort c.args.topology.now c.args.order.now c.args.parents.now) c.loop-u.ports.items c.parent_port.result None c.loop-u.u every c.loop-u.invariant.each c.parent_port.ensures;
    })

pub loop-u-init : goal.loop-u-init
loop-u-init c = record {
  every = ap (λ (xs : List (Option ℕ)). length xs) c.in_ok-ports.ensures.items;
  each = λ v none. absurd (omega (arith, none));
}

pub parent_port-requires-clause-order : goal.parent_port-requires-clause-order
parent_port-requires-clause-order c = c.requires.order

pub parent_port-requires-clause-labels : goal.parent_port-requires-clause-labels
parent_port-requires-clause-labels c = c.requires.labels

pub parent_port-requires-clause-node : goal.parent_port-requires-clause-node
parent_port-requires-clause-node c = omega (arith, c.loop-u-test.true, c.nodes-u-end.ensures.count)

pub returns : goal.returns
returns c =
    let i = c.loop-u.invariant in
    record {
      every_node = omega (arith, i.every, c.loop-u-test.false, c.loop-u.auto.u-end, c.nodes-u-end.ensures.count);
      each = λ u u_in. i.each u (omega (arith, u_in, c.loop-u-test.false, c.nodes-u-end.ensures.count));
    }

pub returns-in_err-ports : goal.returns-in_err-ports
returns-in_err-ports c = IfOk-from_err c.from_residual.result _ c.from_residual.ensures.0

pub returns-in_err-push : goal.returns-in_err-push
returns-in_err-push c = IfOk-from_err c.from_residual-in_err-push.result _ c.from_residual-in_err-push.ensures.0
