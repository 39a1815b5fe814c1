use Rattle.std.proofs.Common.{◌<◌, ℕ, sym, subst}
use Rattle.std.specs.Prelude.{slice_index}
use Rattle.ir_model.specs.Row.{labels}
use Rattle.ir_model.specs.Topology.{node_count}
use Rattle.ir_model.specs.Plan.{label_in, by_label}
use Rattle.ir_exports.proofs.NodeLines.{node_table_is, starts_below}
use Rattle.ir_exports.proofs.node_lines.node_table.Goals as goal

pub lines-requires-clause-starts : goal.lines-requires-clause-starts
lines-requires-clause-starts c k inside =
    let s = c.args.plan.now in
    let row = c.row-row.result.now in
    subst (λ (n : ℕ). slice_index (labels row) k < n) (sym c.nodes-labels.ensures.count)
    (starts_below (node_count s.topology) (label_in s c.args.u) (by_label s c.args.u) row c.row-row.ensures.fits k inside)

pub returns : goal.returns
returns c =
    node_table_is c.args.plan.now c.args.u c.args.epoch c.row-row.result.now c.row-row.ensures.row c.row-row.ensures.fits
    (λ words. words.items) c.lines.result c.nodes-labels.result c.label_of-own.result c.nodes-labels.ensures.count c.label_of-own.ensures
    c.lines.ensures.table c.lines.ensures.led c.lines.ensures.ports
