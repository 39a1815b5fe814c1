use Rattle.std.proofs.Common.{◌≤◌, ◌*◌, ℕ, List, sym, subst, arith}
use Rattle.std.specs.Global.{Vec}
use Rattle.ir_model.specs.Topology.{node_count}
use Rattle.ir_model.specs.Row.{Start}
use Rattle.ir_plan.specs.NodeRows.{AreNodeRows}
use Rattle.ir_plan.proofs.Crews.{by_closure, of_closure}
use Rattle.ir_plan.proofs.Lists.{of_ok}
use Rattle.ir_plan.proofs.NodeRows.{node_rows_stand}
use Rattle.ir_plan.proofs.BatchRows.{made_in_batches}
use Rattle.ir_plan.proofs.rows.rows_of.OwnLists.{same-1-1}
use Rattle.ir_plan.proofs.rows.rows_of.Goals as goal

pub returns : goal.returns
returns g c =
    let net = c.args.topology.now in
    let numbers = c.args.numbering.now in
    let kind = c.args.kind in
    let count : ℕ = c.div_ceil.result in
    let enough : node_count net ≤ count * 16 = omega (arith, c.div_ceil.ensures, c.nodes-nodes.ensures.count) in
    let Are : List (List Start) → Type 0 = λ rows. AreNodeRows kind net numbers.order numbers.parents numbers.labels (node_count net) rows in
    of_ok c.joined.result _ _ c.joined.ensures
    (λ v same.
    node_rows_stand net c.nodes-nodes.ensures.topology numbers c.requires.labels v.items kind c.requires.connected c.requires.some c.requires.tree
    (subst Are (sym same) (made_in_batches kind net numbers.order numbers.parents numbers.labels count c.in_ok-blocks.blocks.items enough
    (by_closure (Vec (List Start)) _ _ (same-1-1 c.rows-arg-2-1.given) _ _ _ c.in_ok-blocks.ensures))))

pub rows-requires-clause-each : goal.rows-requires-clause-each
rows-requires-clause-each g c = of_closure (Vec (List Start)) _ _ (same-1-1 c.rows-arg-2-1.given) _ c.div_ceil.result
    (λ b lt. (omega (arith, lt, c.div_ceil.ensures, c.nodes-nodes.ensures.count), c.requires.labels, c.requires.tree, c.in_ok-made.ensures, c.requires.connected))
