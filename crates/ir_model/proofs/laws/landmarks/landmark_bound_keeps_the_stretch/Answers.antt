use Rattle.ir_model.proofs.Landmarks.{landmark_bound_within}
use Rattle.ir_model.proofs.laws.landmarks.landmark_bound_keeps_the_stretch.Goals as goal

pub returns : goal.returns
returns c net ok landmarks stretch least u d b n is away = landmark_bound_within net ok landmarks stretch least u d b n is away
