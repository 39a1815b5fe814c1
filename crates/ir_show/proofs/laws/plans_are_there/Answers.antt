use Rattle.ir_show.proofs.Plans.{plan_some}
use Rattle.ir_show.proofs.laws.plans_are_there.Goals as goal

pub returns : goal.returns
returns c = λ net ok connected some kind other numbers named. plan_some net ok connected numbers named kind other some
