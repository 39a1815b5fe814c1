use Rattle.ir_core.proofs.Plains.{plain_verdict, plain_act}
use Rattle.ir_core.proofs.laws.without_restamps.Goals as goal

pub returns-clause-verdict : goal.returns-clause-verdict
returns-clause-verdict c = plain_verdict

pub returns-clause-act : goal.returns-clause-act
returns-clause-act c = plain_act
