use Rattle.std.proofs.Common.{refl}
use Rattle.ir_answer.proofs.checking.answer_finding.Goals as goal

pub returns-in_default : goal.returns-in_default
returns-in_default c = (c.in_default.not-NoMemory, refl)
