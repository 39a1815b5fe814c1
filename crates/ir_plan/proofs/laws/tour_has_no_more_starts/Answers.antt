use Rattle.ir_plan.proofs.Labelled.{no_more_starts}
use Rattle.ir_plan.proofs.laws.tour_has_no_more_starts.Goals as goal

pub returns : goal.returns
returns c = no_more_starts
