use Rattle.ir_model.proofs.Tables.{distance_own}
use Rattle.ir_model.proofs.laws.walks.distance_to_itself.Goals as goal

pub returns : goal.returns
returns c net d in_net = distance_own net d in_net
