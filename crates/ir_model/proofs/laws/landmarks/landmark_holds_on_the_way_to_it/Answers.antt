use Rattle.ir_model.proofs.Landmarks.{landmark_on_the_way}
use Rattle.ir_model.proofs.Reach.{connected_distances}
use Rattle.ir_model.proofs.laws.landmarks.landmark_holds_on_the_way_to_it.Goals as goal

pub returns : goal.returns
returns c net ok connected landmarks d l r of p hop rest at is sum = landmark_on_the_way net ok (connected_distances net ok connected) landmarks d l r of p hop rest at is sum
