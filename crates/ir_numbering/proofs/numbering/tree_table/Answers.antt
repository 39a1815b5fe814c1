use Rattle.std.proofs.Common.{ap, ◌∙◌}
use Rattle.std.proofs.lemmas.Result.{IfOk-weaker, IfOk-from_err}
use Rattle.ir_model.specs.Table.{port_in}
use Rattle.ir_model.specs.Tree.{IsTreeTable}
use Rattle.ir_tables.specs.Listed.{IsListed}
use Rattle.ir_numbering.specs.Numbering.{Numbering}
use Rattle.ir_numbering.proofs.Routes.{rows_listed, listed_is_tree}
use Rattle.ir_numbering.proofs.numbering.tree_table.Goals as goal

pub from_ports-requires : goal.from_ports-requires
from_ports-requires c =
    let s = c.args.numbering.now in
    let order = c.as_slice.ensures.value ∙ ap (λ (n : Numbering). n.order) c.numbering.view_is in
    let parents = c.as_slice-2.ensures.value ∙ ap (λ (n : Numbering). n.parents) c.numbering.view_is in
    let labels = c.as_slice-3.ensures.value ∙ ap (λ (n : Numbering). n.labels) c.numbering.view_is in
    let rows = rw (order, parents, labels) at c.in_ok-ports.ensures in
    rows_listed c.args.topology.now s.order s.parents s.labels _ c.requires.order c.requires.labels c.in_ok-ports.ports.items rows

pub returns-clause-tree : goal.returns-clause-tree
returns-clause-tree c =
    let s = c.args.numbering.now in
    let net = c.args.topology.now in
    let order = c.as_slice.ensures.value ∙ ap (λ (n : Numbering). n.order) c.numbering.view_is in
    let parents = c.as_slice-2.ensures.value ∙ ap (λ (n : Numbering). n.parents) c.numbering.view_is in
    let labels = c.as_slice-3.ensures.value ∙ ap (λ (n : Numbering). n.labels) c.numbering.view_is in
    let rows = rw (order, parents, labels) at c.in_ok-ports.ensures in
    IfOk-weaker c.from_ports.result (λ table. IsListed net c.in_ok-ports.ports.items table) (λ table. IsTreeTable net s.order s.parents (port_in table))
    (λ table listed. listed_is_tree net s.order s.parents s.labels _ c.requires.order c.requires.labels c.in_ok-ports.ports.items rows table listed)
    c.from_ports.ensures.listed

pub tree_ports-requires-clause-order : goal.tree_ports-requires-clause-order
tree_ports-requires-clause-order c =
    let order = c.as_slice.ensures.value ∙ ap (λ (n : Numbering). n.order) c.numbering.view_is in
    let parents = c.as_slice-2.ensures.value ∙ ap (λ (n : Numbering). n.parents) c.numbering.view_is in
    rw (order, parents) c.requires.order

pub tree_ports-requires-clause-labels : goal.tree_ports-requires-clause-labels
tree_ports-requires-clause-labels c =
    let order = c.as_slice.ensures.value ∙ ap (λ (n : Numbering). n.order) c.numbering.view_is in
    let labels = c.as_slice-3.ensures.value ∙ ap (λ (n : Numbering). n.labels) c.numbering.view_is in
    rw (order, labels) c.requires.labels

pub tree_ports-requires-clause-ups : goal.tree_ports-requires-clause-ups
tree_ports-requires-clause-ups c =
    let order = c.as_slice.ensures.value ∙ ap (λ (n : Numbering). n.order) c.numbering.view_is in
    let parents = c.as_slice-2.ensures.value ∙ ap (λ (n : Numbering). n.parents) c.numbering.view_is in
    let ports = c.as_slice-4.ensures.value ∙ ap (λ (n : Numbering). n.ports) c.numbering.view_is in
    rw (order, parents, ports) c.requires.ports

pub returns-clause-routed : goal.returns-clause-routed
returns-clause-routed c = c.from_ports.ensures.routed

pub returns-in_err-ports-clause-tree : goal.returns-in_err-ports-clause-tree
returns-in_err-ports-clause-tree c = IfOk-from_err c.from_residual.result _ c.from_residual.ensures.0

pub returns-in_err-ports-clause-routed : goal.returns-in_err-ports-clause-routed
returns-in_err-ports-clause-routed c = IfOk-from_err c.from_residual.result _ c.from_residual.ensures.0
