use Rattle.ir_lines.specs.Words.{table_head}
use Rattle.ir_lines.proofs.tree.headed.Goals as goal

pub returns : goal.returns
unfolding table_head
returns c = rw c.in_ok-words.ensures.items at c.in_ok-extend_from_slice.ensures.items
