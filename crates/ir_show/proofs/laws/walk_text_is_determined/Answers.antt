use Rattle.ir_show.proofs.Determined.{one_walk_text}
use Rattle.ir_show.proofs.laws.walk_text_is_determined.Goals as goal

pub returns : goal.returns
returns c nodes s a b text other x y = one_walk_text nodes s a b text other x y
