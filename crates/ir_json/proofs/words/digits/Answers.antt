use Rattle.std.proofs.Common.{◌∙◌, ap, not, unwrap_or, length}
use Rattle.ir_model.proofs.Pieces.{position-or_length, not_not}
use Rattle.ir_json.specs.Words.{is_digit_byte}
use Rattle.ir_json.proofs.words.digits.Goals as goal

pub returns-clause-len : goal.returns-clause-len
returns-clause-len c = c.unwrap_or.ensures ∙ ap (λ o. unwrap_or o (length c.args.word.now)) c.find_mark.ensures ∙ position-or_length (λ b. not (is_digit_byte b)) is_digit_byte c.args.word.now (λ b. not_not (is_digit_byte b))
