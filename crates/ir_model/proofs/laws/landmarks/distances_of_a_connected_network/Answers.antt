use Rattle.ir_model.proofs.Reach.{connected_distances}
use Rattle.ir_model.proofs.laws.landmarks.distances_of_a_connected_network.Goals as goal

pub returns : goal.returns
returns c net ok connected = connected_distances net ok connected
