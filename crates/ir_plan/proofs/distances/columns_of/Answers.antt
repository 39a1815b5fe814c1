use Rattle.std.proofs.Common.{ℕ, List, arith}
use Rattle.std.specs.Global.{Vec}
use Rattle.ir_model.specs.Topology.{node_count}
use Rattle.ir_model.specs.Plan.{table_port}
use Rattle.ir_plan.specs.Distances.{IsPortColumn}
use Rattle.ir_plan.proofs.Crews.{by_closure}
use Rattle.ir_plan.proofs.Lists.{lists_for_range, of_ok}
use Rattle.ir_plan.proofs.distances.columns_of.OwnLists.{same-1-1}
use Rattle.ir_plan.proofs.distances.columns_of.Goals as goal

pub returns : goal.returns
returns g c =
    let n = node_count c.args.plan.now.topology in
    let P : ℕ → List ℕ → Type 0 = λ d column. IsPortColumn n (table_port c.args.plan.now) d column in
    of_ok c.lists.result _ _ c.lists.ensures
    (λ v zipped.
    let made = lists_for_range P c.nodes.result v.items (by_closure (Vec ℕ) _ _ (same-1-1 c.lists-arg-2-1.given) _ _ _ zipped) in
    record { every = omega (arith, made.0, c.nodes.ensures.count); each = λ d lt. made.1 d (omega (arith, lt, c.nodes.ensures.count)) })
