use Rattle.std.proofs.Common.{sym, ap}
use Rattle.ir_script.specs.Command.{node_at}
use Rattle.ir_adjlist.proofs.NoNames.{no_node}
use Rattle.ir_script.proofs.word.node_of.Goals as goal

pub returns-in_default-clause-node : goal.returns-in_default-clause-node
returns-in_default-clause-node c = ap node_at (sym (no_node c.args.word.now c.in_default.ensures.cases.0 c.args.graph.now c.invariant.ensures.graph.rows))
