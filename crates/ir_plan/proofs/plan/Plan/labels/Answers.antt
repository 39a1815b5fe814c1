use Rattle.std.proofs.Common.{◌≡◌, ◌≤◌, ◌-◌, ◌*◌, ◌∙◌, ap, arith, length, sum_by, List}
use Rattle.std.proofs.lemmas.List.Sums.{sum_by_more_le}
use Rattle.std.proofs.lemmas.List.{take_all}
use Rattle.ir_model.specs.Plan.{Plan}
use Rattle.std.proofs.Math.Nat.{mul-le-mul_left, mul-le-mul_right}
use Rattle.ir_model.specs.declared.TheConstants.{MAX_NODES}
use Rattle.ir_model.specs.Topology.{node_count}
use Rattle.ir_model.specs.Row.{Start}
use Rattle.ir_plan.proofs.Standing.{few_starts}
use Rattle.ir_plan.proofs.TreeStarts.{tree_plan_starts}
use Rattle.ir_plan.specs.Views.{plan_view}
use Rattle.ir_plan.proofs.plan.Plan.labels.Goals as goal

pub overflow_add-starts : goal.overflow_add-starts
overflow_add-starts c =
    let n = node_count c.self.inside.topology in
    let small : n ≤ MAX_NODES = c.self.invariant.topology.few_nodes in
    let square : n * n ≤ MAX_NODES * MAX_NODES = grind (arith, mul-le-mul_left n small, mul-le-mul_right MAX_NODES small) in
    let all : sum_by length c.deref-row-items.result.now ≤ n * n = rw c.deref-row-items.ensures.value (few_starts (plan_view c.self.inside) c.self.invariant) in
    let next = sum_by_more_le (λ (row : List Start). length row) c.deref-row-items.result.now c.loop-row.row-index c.row-item.result c.loop-row-test.true in
    let item = ap (λ (row : List Start). length row) c.row-item.is in
    let so_far = c.loop-row.invariant in
    omega arith

pub returns-clause-tree : goal.returns-clause-tree
returns-clause-tree c tree =
    let kind = ap (λ (s : Plan). s.kind) c.self.view_is ∙ tree in
    let all = take_all c.loop-row.row-index c.deref-row-items.result.now c.loop-row-test.false in
    let counted : c.loop-row.starts ≡ sum_by length c.self.inside.rows.items =
    c.loop-row.invariant ∙ ap (λ (rows : List (List Start)). sum_by length rows) (all ∙ c.deref-row-items.ensures.value) in
    counted ∙ tree_plan_starts (plan_view c.self.inside) c.self.invariant kind ∙ ap (λ (s : Plan). 2 * (node_count s.topology - 1)) c.self.view_is
