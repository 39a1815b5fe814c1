use Rattle.std.proofs.Common.{◌≡◌, ◌+◌, ◌<◌, ◌++◌, ◌∷◌, [], ℕ, arith, ap, subst, ◌∙◌, List, length}
use Rattle.std.proofs.lemmas.List.{length_push}
use Rattle.ir_model.specs.Topology.{node_count}
use Rattle.ir_model.proofs.Tables.{shortest_routed}
use Rattle.ir_tables.specs.Relaxation.{IsColumn}
use Rattle.ir_tables.proofs.Columns.{of_columns, AreColumns, columns_push, columns_square, columns_shortest, columns_connected}
use Rattle.std.proofs.lemmas.Result.{err_from_is_err_and}
use Rattle.ir_tables.specs.declared.table.Column.{Column}
use Rattle.ir_tables.proofs.table.Table.shortest.Goals as goal

pub loop-d-preserved : goal.loop-d-preserved
loop-d-preserved c =
    let items : c.push.new.self.items ≡ c.loop-d.columns.items ++ c.in-Some.column ∷ [] = c.in_ok-push-in-Some.ensures.items in
    let here = rw c.in-Some.is at c.in_ok-column.ensures.column in
    rw items (record {
      len = length_push c.loop-d.columns.items c.in-Some.column ∙ ap (λ k. k + 1) c.loop-d.invariant.len;
      columns = columns_push (IsColumn c.args.topology.now) c.loop-d.columns.items c.loop-d.d c.in-Some.column c.loop-d.invariant.len c.loop-d.invariant.columns here;
    })

pub invariant_of-result : goal.invariant_of-result
invariant_of-result c =
    let all : c.loop-d.d ≡ node_count c.args.topology.now = omega (arith, c.nodes-nodes.ensures.count) in
    let are : AreColumns c.args.topology.now c.loop-d.columns.items = record { len = c.loop-d.invariant.len ∙ all; columns = λ k e lt. c.loop-d.invariant.columns k e (omega (arith, c.loop-d.invariant.len, lt)) } in
    columns_square c.args.topology.now c.loop-d.columns.items are

pub returns-clause-shortest : goal.returns-clause-shortest
returns-clause-shortest c =
    let all : c.loop-d.d ≡ node_count c.args.topology.now = omega (arith, c.nodes-nodes.ensures.count) in
    let are : AreColumns c.args.topology.now c.loop-d.columns.items = record { len = c.loop-d.invariant.len ∙ all; columns = λ k e lt. c.loop-d.invariant.columns k e (omega (arith, c.loop-d.invariant.len, lt)) } in
    columns_shortest c.args.topology.now c.loop-d.columns.items are

pub returns-clause-routed : goal.returns-clause-routed
returns-clause-routed c =
    let all : c.loop-d.d ≡ node_count c.args.topology.now = omega (arith, c.nodes-nodes.ensures.count) in
    let are : AreColumns c.args.topology.now c.loop-d.columns.items = record { len = c.loop-d.invariant.len ∙ all; columns = λ k e lt. c.loop-d.invariant.columns k e (omega (arith, c.loop-d.invariant.len, lt)) } in
    shortest_routed c.args.topology.now c.nodes-nodes.ensures.topology (of_columns c.loop-d.columns.items) (columns_shortest c.args.topology.now c.loop-d.columns.items are)

pub returns-clause-connected : goal.returns-clause-connected
returns-clause-connected c =
    let all : c.loop-d.d ≡ node_count c.args.topology.now = omega (arith, c.nodes-nodes.ensures.count) in
    let are : AreColumns c.args.topology.now c.loop-d.columns.items = record { len = c.loop-d.invariant.len ∙ all; columns = λ k e lt. c.loop-d.invariant.columns k e (omega (arith, c.loop-d.invariant.len, lt)) } in
    columns_connected c.args.topology.now c.loop-d.columns.items are

pub returns-in-None-clause-disconnected : goal.returns-in-None-clause-disconnected
returns-in-None-clause-disconnected c = λ _.
    let far = rw c.in-None.is at c.in_ok-column.ensures.none in
    (far.0, c.loop-d.d, far.1, subst (λ (n : ℕ). c.loop-d.d < n) c.nodes-nodes.ensures.count c.loop-d-test.true, far.2)

pub loop-d-init : goal.loop-d-init
loop-d-init c = record { len = ap (λ (cs : List Column). length cs) c.in_ok-columns.ensures.items; columns = λ k e lt. absurd (omega (arith, lt)) }

pub returns-in_err-column-clause-shortest : goal.returns-in_err-column-clause-shortest
returns-in_err-column-clause-shortest c = rw (err_from_is_err_and c.from_residual-in_err-column.result c.from_residual-in_err-column.ensures.1).1 tt

pub returns-in_err-column-clause-routed : goal.returns-in_err-column-clause-routed
returns-in_err-column-clause-routed c = rw (err_from_is_err_and c.from_residual-in_err-column.result c.from_residual-in_err-column.ensures.1).1 tt

pub returns-in_err-column-clause-connected : goal.returns-in_err-column-clause-connected
returns-in_err-column-clause-connected c = rw (err_from_is_err_and c.from_residual-in_err-column.result c.from_residual-in_err-column.ensures.1).1 tt
