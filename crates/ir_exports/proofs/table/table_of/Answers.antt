use Rattle.std.proofs.Common.{List, Option, ℕ, subst, ◌∙◌, arith}
use Rattle.ir_prefix.specs.Forwarding.{NamesPorts}
use Rattle.ir_exports.proofs.NodeTables.{are_destinations, disjoint_from, nested_from}
use Rattle.ir_exports.proofs.table.table_of.Goals as goal

pub disjoint_lines-requires : goal.disjoint_lines-requires
disjoint_lines-requires c =
    let few = c.nodes-nodes.ensures.plan.topology.few_nodes in
    are_destinations c.args.plan.now c.nodes-nodes.ensures.plan c.args.u _ c.label_of-own.result c.as_slice.result.now c.requires (omega (arith, few)) c.label_of-own.ensures (c.as_slice.ensures.value ∙ c.in_ok-ports.ensures)

pub returns-then-is_disjoint-clause-lines : goal.returns-then-is_disjoint-clause-lines
returns-then-is_disjoint-clause-lines c =
    let few = c.nodes-nodes.ensures.plan.topology.few_nodes in
    let made = c.in_ok-disjoint_lines.ensures in
    rw c.if-is_disjoint.true
    (disjoint_from c.args.plan.now c.args.u _ c.as_slice.result.now c.in_ok-disjoint_lines.field-0.items (omega (arith, few)) (c.as_slice.ensures.value ∙ c.in_ok-ports.ensures)
    made.well made.disjoint made.fewest made.ports made.order)

pub returns-then-is_disjoint-clause-ports : goal.returns-then-is_disjoint-clause-ports
returns-then-is_disjoint-clause-ports c =
    subst (λ (ps : List (Option ℕ)). NamesPorts ps c.in_ok-disjoint_lines.field-0.items) (c.as_slice.ensures.value ∙ c.in_ok-ports.ensures) c.in_ok-disjoint_lines.ensures.ports

pub forwarding_lines-requires : goal.forwarding_lines-requires
forwarding_lines-requires c =
    let few = c.nodes-nodes.ensures.plan.topology.few_nodes in
    are_destinations c.args.plan.now c.nodes-nodes.ensures.plan c.args.u _ c.label_of-own.result c.as_slice-else-is_disjoint.result.now c.requires (omega (arith, few)) c.label_of-own.ensures (c.as_slice-else-is_disjoint.ensures.value ∙ c.in_ok-ports.ensures)

pub returns-clause-lines : goal.returns-clause-lines
returns-clause-lines c =
    let few = c.nodes-nodes.ensures.plan.topology.few_nodes in
    let made = c.in_ok-forwarding_lines.ensures in
    rw c.if-is_disjoint.false
    (nested_from c.args.plan.now c.args.u _ c.as_slice-else-is_disjoint.result.now c.in_ok-forwarding_lines.field-0.items (omega (arith, few)) (c.as_slice-else-is_disjoint.ensures.value ∙ c.in_ok-ports.ensures)
    made.well made.forwards made.fewest made.ports made.order made.loads)

pub returns-clause-ports : goal.returns-clause-ports
returns-clause-ports c =
    subst (λ (ps : List (Option ℕ)). NamesPorts ps c.in_ok-forwarding_lines.field-0.items) (c.as_slice-else-is_disjoint.ensures.value ∙ c.in_ok-ports.ensures) c.in_ok-forwarding_lines.ensures.ports
