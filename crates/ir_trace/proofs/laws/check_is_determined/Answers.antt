use Rattle.ir_trace.proofs.OneAnswer.{one_sound, one_finding}
use Rattle.ir_trace.proofs.laws.check_is_determined.Goals as goal

pub returns : goal.returns
returns c = record {
  sound = λ net installs rows over sound. one_sound net installs rows over sound;
  finding = λ net installs rows line kind over finds other. one_finding net installs rows over line kind finds other;
}
