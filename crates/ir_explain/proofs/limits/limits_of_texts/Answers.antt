use Rattle.std.proofs.Common.{refl}
use Rattle.ir_explain.proofs.limits.limits_of_texts.Goals as goal

pub returns-clause-bytes : goal.returns-clause-bytes
returns-clause-bytes c = refl
