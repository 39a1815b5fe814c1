use Rattle.ir_model.proofs.Ways.{symmetric}
use Rattle.ir_model.proofs.laws.walks.distance_is_symmetric.Goals as goal

pub returns : goal.returns
returns c net ok u d n far = symmetric net ok u d n far
