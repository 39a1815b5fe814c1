use Rattle.ir_plan.proofs.LandmarkPlans.{landmark_weight}
use Rattle.ir_plan.proofs.laws.ways_of_a_landmark_plan.Goals as goal

pub returns : goal.returns
returns c = landmark_weight
