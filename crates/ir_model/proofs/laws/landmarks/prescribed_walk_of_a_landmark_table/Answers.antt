use Rattle.ir_model.proofs.Landmarks.{landmark_walks, landmark_walk_weight}
use Rattle.ir_model.proofs.Reach.{connected_distances}
use Rattle.ir_model.proofs.laws.landmarks.prescribed_walk_of_a_landmark_table.Goals as goal

pub returns-clause-exists : goal.returns-clause-exists
returns-clause-exists c net ok connected landmarks are stretch allowed order table is u d n away =
    landmark_walks net ok landmarks stretch allowed.0 allowed.1 (connected_distances net ok connected) are table is.keeps u d n away

pub returns-clause-stretch : goal.returns-clause-stretch
returns-clause-stretch c net ok connected landmarks are stretch allowed order table is u d n away walk prescribed =
    landmark_walk_weight net ok landmarks stretch allowed.0 allowed.1 (connected_distances net ok connected) are table is.keeps u d n away walk prescribed
