use Rattle.ir_model.proofs.Ordered.{canonical_same}
use Rattle.ir_model.proofs.laws.intervals.canonical_rows_are_equal.Goals as goal

pub returns : goal.returns
returns c n own ports row other a b = canonical_same n own ports row other a b
