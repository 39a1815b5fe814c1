use Rattle.ir_answer.proofs.SameInstalls.{have_same_plans}
use Rattle.ir_answer.proofs.laws.installs_have_the_same_plans.Goals as goal

pub returns : goal.returns
returns c = have_same_plans
