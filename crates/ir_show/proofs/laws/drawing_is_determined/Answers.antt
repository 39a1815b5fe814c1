use Rattle.ir_show.proofs.Determined.{one_drawing}
use Rattle.ir_show.proofs.laws.drawing_is_determined.Goals as goal

pub returns : goal.returns
returns c nodes s ends text other x y = one_drawing nodes s ends text other x y
