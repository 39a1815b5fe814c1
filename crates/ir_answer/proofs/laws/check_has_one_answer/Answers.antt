use Rattle.ir_answer.proofs.OneCheck.{check_same, checked_same, texts_same}
use Rattle.ir_answer.proofs.laws.check_has_one_answer.Goals as goal

pub returns : goal.returns
returns c = record {
  replayed = λ g words script trace root one other a b. check_same g words trace script root one other a b;
  checked = λ words script trace g one other a b. checked_same words script trace g one other a b;
  texts = λ words texts one other a b. texts_same words texts one other a b;
}
