use Rattle.ir_model.proofs.Compact.{compact_same}
use Rattle.ir_model.proofs.laws.choices.compact_table_is_determined.Goals as goal

pub returns : goal.returns
returns c net order labels table other named a b u d hu hd = compact_same net order labels named table other a b u d hu hd
