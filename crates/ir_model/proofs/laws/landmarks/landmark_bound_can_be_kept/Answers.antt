use Rattle.ir_model.proofs.Landmarks.{landmark_bound_keepable}
use Rattle.ir_model.proofs.Reach.{connected_distances}
use Rattle.ir_model.proofs.laws.landmarks.landmark_bound_can_be_kept.Goals as goal

pub returns : goal.returns
returns c net ok connected landmarks are stretch allowed = landmark_bound_keepable net ok landmarks stretch allowed.0 allowed.1 (connected_distances net ok connected) are
