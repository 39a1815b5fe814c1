use Rattle.ir_trace.proofs.Determined.{one_departure}
use Rattle.ir_trace.proofs.laws.departure_is_determined.Goals as goal

pub returns : goal.returns
returns c net installs plans row found other are is h g = one_departure net installs plans row found other are is h g
