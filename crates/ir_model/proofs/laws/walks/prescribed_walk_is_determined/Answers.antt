use Rattle.ir_model.proofs.Tables.{prescribed_unique}
use Rattle.ir_model.proofs.laws.walks.prescribed_walk_is_determined.Goals as goal

pub returns : goal.returns
returns c net table u d walk other a b = prescribed_unique net table u d walk other a b
