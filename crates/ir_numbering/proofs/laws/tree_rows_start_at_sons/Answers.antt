use Rattle.ir_numbering.proofs.Subtrees.{tree_rows_start}
use Rattle.ir_numbering.proofs.laws.tree_rows_start_at_sons.Goals as goal

pub returns : goal.returns
returns c = tree_rows_start
