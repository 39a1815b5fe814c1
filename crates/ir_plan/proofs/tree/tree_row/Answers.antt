use Rattle.ir_lookup.specs.Words.{starts_of}
use Rattle.ir_plan.proofs.SonStarts.{tree_row_is}
use Rattle.ir_plan.proofs.tree.tree_row.Goals as goal

pub returns : goal.returns
returns c =
    let net = c.args.topology.now in
    let numbers = c.args.numbering.now in
    rw c.of.ensures
    (tree_row_is net c.invariant.ensures.topology numbers c.requires.numbering c.args.u c.requires.node (starts_of c.add_father.new.words.items) c.in_ok-add_father.ensures)
