use Rattle.std.proofs.Common.{◌≡◌, ℕ, ◌∙◌, List, length, ap, sym, subst, arith}
use Rattle.std.specs.Global.{Vec}
use Rattle.ir_model.specs.declared.Kind.{Kind}
use Rattle.ir_model.specs.Topology.{node_count}
use Rattle.ir_model.specs.Table.{IsShortestTable}
use Rattle.ir_model.specs.Plan.{IsTableOf, table_port}
use Rattle.ir_plan.specs.Distances.{AreDistances, lists_of}
use Rattle.ir_plan.proofs.Lists.{list_at, lists_length}
use Rattle.ir_plan.proofs.Differences.{distances_differ}
use Rattle.ir_plan.proofs.distances.Distances.of.Goals as goal

pub distances_of-requires-clause-square : goal.distances_of-requires-clause-square
distances_of-requires-clause-square g c κs inside =
    let same = c.as_slice.ensures.value in
    let are = c.in_ok-columns.ensures in
    let len = lists_length c.in_ok-columns.columns.items in
    λ k d lt.
    rw same
    (ap length (sym (list_at c.in_ok-columns.columns.items k d (omega (arith, lt, ap length same)))) ∙ (are.each k (omega (arith, lt, ap length same, are.every, len))).every ∙ omega (arith, are.every, len))

pub invariant_of-result : goal.invariant_of-result
invariant_of-result g c =
    let made = c.in_ok-rows.ensures in
    let are = c.in_ok-columns.ensures in
    let len : length (lists_of c.in_ok-columns.columns.items) ≡ node_count c.args.plan.now.topology = are.every in
    let of_slice : length (lists_of c.as_slice.result.now) ≡ length (lists_of c.in_ok-columns.columns.items) = ap (λ (vs : List (Vec ℕ)). length (lists_of vs)) c.as_slice.ensures.value in
    let rows : length (lists_of c.in_ok-rows.rows.items) ≡ length (lists_of c.as_slice.result.now) = made.every in
    let own = lists_length c.in_ok-rows.rows.items in
    let count = c.nodes-nodes.ensures.count in
    record {
      every = omega (arith, c.in_ok-rows.rows.ok, rows, own, of_slice, len, count);
      square = λ k d lt.
          ap length (sym (list_at c.in_ok-rows.rows.items k d lt)) ∙ (made.each k (omega (arith, lt, rows, own))).every ∙ omega (arith, of_slice, len, count);
    }

pub returns-clause-shortest : goal.returns-clause-shortest
returns-clause-shortest g c =
    let plan = c.args.plan.now in
    let is = c.nodes-nodes.ensures.plan in
    let table : IsShortestTable plan.topology (table_port plan) = subst (λ (k : Kind). IsTableOf k plan.topology plan.order is.parents (table_port plan)) c.requires.shortest is.table in (
      table_port plan,
      table,
      distances_differ plan.topology is.topology (table_port plan) table (lists_of c.in_ok-columns.columns.items) (lists_of c.in_ok-rows.rows.items) c.in_ok-columns.ensures
          (subst (λ (vs : List (Vec ℕ)). AreDistances (lists_of vs) (lists_of c.in_ok-rows.rows.items)) c.as_slice.ensures.value c.in_ok-rows.ensures),
    )
