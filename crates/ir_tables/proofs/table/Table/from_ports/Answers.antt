use Rattle.std.proofs.Common.{◌≡◌, ◌+◌, ◌++◌, ◌∷◌, [], ℕ, List, Option, arith, subst, ap, ◌∙◌, length, sym}
use Rattle.std.proofs.lemmas.List.{length_push}
use Rattle.ir_model.specs.Topology.{node_count}
use Rattle.ir_tables.specs.declared.table.Column.{Column}
use Rattle.ir_tables.specs.Listed.{IsListedColumn}
use Rattle.ir_tables.proofs.Columns.{AreListed, columns_push, listed_square, listed_table, listed_routed}
use Rattle.ir_tables.specs.Listed.{IsPortList}
use Rattle.ir_tables.proofs.table.Table.from_ports.Goals as goal

pub loop-d-preserved : goal.loop-d-preserved
loop-d-preserved c =
    let column : Column = c.in_ok-listed_column.field-0 in
    let items : c.push.new.self.items ≡ c.loop-d.columns.items ++ column ∷ [] = c.in_ok-push.ensures.items in
    let P : List (Option ℕ) → Type 0 = λ list. IsListedColumn c.args.topology.now list c.loop-d.d column.ports.items column.weights.items in
    rw items (record {
      len = length_push c.loop-d.columns.items column ∙ ap (λ k. k + 1) c.loop-d.invariant.len;
      columns = columns_push (IsListedColumn c.args.topology.now c.args.ports.items) c.loop-d.columns.items c.loop-d.d column c.loop-d.invariant.len c.loop-d.invariant.columns (subst P c.as_slice.ensures.value c.in_ok-listed_column.ensures);
    })

pub invariant_of-result : goal.invariant_of-result
invariant_of-result c =
    let all : c.loop-d.d ≡ node_count c.args.topology.now = omega (arith, c.nodes-nodes.ensures.count) in
    let are : AreListed c.args.topology.now c.args.ports.items c.loop-d.columns.items = record { len = c.loop-d.invariant.len ∙ all; columns = λ k e lt. c.loop-d.invariant.columns k e (omega (arith, c.loop-d.invariant.len, lt)) } in
    listed_square c.args.topology.now c.args.ports.items c.loop-d.columns.items are

pub returns-clause-listed : goal.returns-clause-listed
returns-clause-listed c =
    let all : c.loop-d.d ≡ node_count c.args.topology.now = omega (arith, c.nodes-nodes.ensures.count) in
    let are : AreListed c.args.topology.now c.args.ports.items c.loop-d.columns.items = record { len = c.loop-d.invariant.len ∙ all; columns = λ k e lt. c.loop-d.invariant.columns k e (omega (arith, c.loop-d.invariant.len, lt)) } in
    listed_table c.args.topology.now c.args.ports.items c.loop-d.columns.items are

pub returns-clause-routed : goal.returns-clause-routed
returns-clause-routed c =
    let all : c.loop-d.d ≡ node_count c.args.topology.now = omega (arith, c.nodes-nodes.ensures.count) in
    let are : AreListed c.args.topology.now c.args.ports.items c.loop-d.columns.items = record { len = c.loop-d.invariant.len ∙ all; columns = λ k e lt. c.loop-d.invariant.columns k e (omega (arith, c.loop-d.invariant.len, lt)) } in
    listed_routed c.args.topology.now c.nodes-nodes.ensures.topology c.args.ports.items c.loop-d.columns.items c.requires are

pub loop-d-init : goal.loop-d-init
loop-d-init c = record { len = ap (λ (cs : List Column). length cs) c.in_ok-columns.ensures.items; columns = λ k e lt. absurd (omega (arith, lt)) }

pub listed_column-requires-clause-list : goal.listed_column-requires-clause-list
listed_column-requires-clause-list c = subst (λ (list : List (Option ℕ)). IsPortList c.args.topology.now list) (sym c.as_slice.ensures.value) c.requires
