use Rattle.std.proofs.Common.{refl, lit<}
use Rattle.ir_model.proofs.laws.worked.weighted_example.Goals as goal

pub returns-clause-walk : goal.returns-clause-walk
returns-clause-walk c = (refl, ((0, _, refl, refl), ((2, _, refl, refl), (refl, lit< tt))))
