use Rattle.std.proofs.Common.{ℕ, List, arith}
use Rattle.std.specs.Global.{Vec}
use Rattle.ir_bounds.specs.Near.{IsNearBatch}
use Rattle.ir_plan.proofs.Crews.{by_closure, of_closure}
use Rattle.ir_plan.proofs.Lists.{of_ok, lists_for_range}
use Rattle.ir_plan.proofs.near.near_lists.OwnLists.{same-1-1}
use Rattle.ir_plan.proofs.near.near_lists.Goals as goal

pub returns : goal.returns
returns g c =
    let P : ℕ → List ℕ → Type 0 = λ b list. IsNearBatch c.args.topology.now c.args.owners.now.landmarks.items c.args.stretch b list in
    of_ok c.lists.result _ _ c.lists.ensures
    (λ v zipped.
    let made = lists_for_range P c.div_ceil.result v.items (by_closure (Vec ℕ) _ _ (same-1-1 c.lists-arg-2-1.given) _ _ _ zipped) in
    record {
      enough = omega (arith, made.0, c.div_ceil.ensures, c.nodes.ensures.count);
      each = λ b lt. made.1 b (omega (arith, lt, made.0));
    })

pub lists-requires-clause-each : goal.lists-requires-clause-each
lists-requires-clause-each g c =
    of_closure (Vec ℕ) _ _ (same-1-1 c.lists-arg-2-1.given) _ c.div_ceil.result (λ b lt. (omega (arith, lt, c.div_ceil.ensures, c.nodes.ensures.count), c.requires.connected, c.requires.owners, c.in_ok-found.ensures))
