use Rattle.std.proofs.Common.{ℕ, List, arith}
use Rattle.std.specs.Global.{Vec}
use Rattle.ir_plan.specs.Ties.{MayBeWords}
use Rattle.ir_plan.proofs.Crews.{by_closure, of_closure}
use Rattle.ir_plan.proofs.Lists.{of_ok, lists_for_range, lists_length}
use Rattle.ir_plan.proofs.ties.words_of.OwnLists.{same-1-1}
use Rattle.ir_plan.proofs.ties.words_of.Goals as goal

pub returns-clause-each : goal.returns-clause-each
returns-clause-each g c =
    let P : ℕ → List ℕ → Type 0 = λ b words. MayBeWords c.args.topology.now c.args.order.now b words in
    of_ok c.lists.result _ _ c.lists.ensures
    (λ v zipped.
    let made = lists_for_range P c.div_ceil.result v.items (by_closure (Vec ℕ) _ _ (same-1-1 c.lists-arg-2-1.given) _ _ _ zipped) in
    λ b lt. made.1 b (omega (arith, lt, made.0, lists_length v.items)))

pub returns-clause-enough : goal.returns-clause-enough
returns-clause-enough g c =
    let P : ℕ → List ℕ → Type 0 = λ b words. MayBeWords c.args.topology.now c.args.order.now b words in
    of_ok c.lists.result _ _ c.lists.ensures
    (λ v zipped.
    let made = lists_for_range P c.div_ceil.result v.items (by_closure (Vec ℕ) _ _ (same-1-1 c.lists-arg-2-1.given) _ _ _ zipped) in
    omega (arith, made.0, lists_length v.items, c.div_ceil.ensures))

pub lists-requires-clause-each : goal.lists-requires-clause-each
lists-requires-clause-each g c = of_closure (Vec ℕ) _ _ (same-1-1 c.lists-arg-2-1.given) _ c.div_ceil.result (λ b lt. (omega (arith, lt, c.div_ceil.ensures), c.requires))
