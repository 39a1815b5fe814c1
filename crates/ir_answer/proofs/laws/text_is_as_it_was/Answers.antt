use Rattle.ir_answer.proofs.Forms.{form_of_text}
use Rattle.ir_answer.proofs.laws.text_is_as_it_was.Goals as goal

pub returns : goal.returns
returns c sub words plain none = form_of_text sub words plain none
