use Rattle.ir_core.proofs.Alike.{epochs_built}
use Rattle.ir_core.proofs.laws.epochs_of_installs.Goals as goal

pub returns : goal.returns
returns c = epochs_built
