use Rattle.ir_plan.proofs.BatchRows.{no_tree}
use Rattle.ir_plan.proofs.rows.shortest_rows.Goals as goal

pub rows_from-requires : goal.rows_from-requires
rows_from-requires c =
    let nothing = c.nothing-nothing.ensures in
    (c.requires.block, c.requires.labels, no_tree, record { ties = rw nothing.ties tt; bounds = tt }, c.requires.connected)
