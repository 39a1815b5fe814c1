use Rattle.ir_plan.proofs.Labelled.{tour_same}
use Rattle.ir_plan.proofs.laws.tour_is_determined.Goals as goal

pub returns : goal.returns
returns c = tour_same
