use Rattle.ir_model.proofs.Line.{line_walk, line_distance}
use Rattle.ir_model.proofs.laws.worked.line_of_three_nodes.Goals as goal

pub returns-clause-walk : goal.returns-clause-walk
returns-clause-walk c = line_walk

pub returns-clause-distance : goal.returns-clause-distance
returns-clause-distance c = line_distance
