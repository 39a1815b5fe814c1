use Rattle.std.proofs.Common.{refl}
use Rattle.ir_show.proofs.draw.goes_by.Goals as goal

pub returns : goal.returns
returns c = rw c.hop.ensures refl
