use Rattle.ir_model.proofs.Triangle.{triangle_landmark, triangle_distance, triangle_bound, triangle_row}
use Rattle.ir_model.proofs.laws.worked.triangle_with_a_landmark.Goals as goal

pub returns-clause-landmark : goal.returns-clause-landmark
returns-clause-landmark c = triangle_landmark

pub returns-clause-distance : goal.returns-clause-distance
returns-clause-distance c = triangle_distance

pub returns-clause-bound : goal.returns-clause-bound
returns-clause-bound c = triangle_bound

pub returns-clause-row : goal.returns-clause-row
returns-clause-row c = triangle_row
