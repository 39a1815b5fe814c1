use Rattle.ir_exports.proofs.SameLines.{same_text}
use Rattle.ir_exports.proofs.laws.text_is_determined_by_lines.Goals as goal

pub returns : goal.returns
returns c is_disjoint nodes s text other a b = same_text is_disjoint nodes s text other a b
