use Rattle.ir_model.proofs.Ways.{triangle}
use Rattle.ir_model.proofs.laws.walks.distances_obey_the_triangle.Goals as goal

pub returns : goal.returns
returns c net ok u v w a b d first second whole = triangle net ok u v w a b d first second whole
