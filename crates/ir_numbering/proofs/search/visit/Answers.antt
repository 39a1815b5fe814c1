use Rattle.std.proofs.Common.{◌≡◌, length, refl, arith}
use Rattle.ir_numbering.proofs.search.visit.Goals as goal

pub returns-clause-nodes : goal.returns-clause-nodes
returns-clause-nodes c = c.in_ok-push-4.ensures.items

pub returns-clause-parents : goal.returns-clause-parents
returns-clause-parents c = c.in_ok-push-3.ensures.items

pub returns-clause-stack : goal.returns-clause-stack
returns-clause-stack c =
    let place : c.len.result ≡ length c.args.nodes.now.items = let is = c.len.ensures in omega (arith, is) in
    rw (c.in_ok-push-2.ensures.items, c.in_ok-push.ensures.items, place) refl
