use Rattle.ir_model.proofs.Landmarks.{landmark_unique}
use Rattle.ir_model.proofs.laws.landmarks.landmark_is_determined.Goals as goal

pub returns : goal.returns
returns c net landmarks d l m r s a b = landmark_unique net landmarks d l m r s a b
