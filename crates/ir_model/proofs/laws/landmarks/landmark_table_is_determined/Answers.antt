use Rattle.ir_model.specs.Landmark.{IsLandmarkBound}
use Rattle.ir_model.proofs.Within.{within_same}
use Rattle.ir_model.proofs.laws.landmarks.landmark_table_is_determined.Goals as goal

pub returns : goal.returns
returns c net landmarks stretch order labels table other named is so u d hu hd =
    within_same net (IsLandmarkBound net landmarks stretch) order labels named table other is so u d hu hd
