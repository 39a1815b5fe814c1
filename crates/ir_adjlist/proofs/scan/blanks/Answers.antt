use Rattle.std.proofs.Common.{◌∙◌, ap, not, unwrap_or, length}
use Rattle.ir_model.specs.Text.{is_blank}
use Rattle.ir_model.proofs.Pieces.{position-or_length, not_not}
use Rattle.ir_adjlist.proofs.scan.blanks.Goals as goal

pub returns-clause-len : goal.returns-clause-len
returns-clause-len c = c.unwrap_or.ensures ∙ ap (λ o. unwrap_or o (length c.args.bytes.now)) c.find_word.ensures ∙ position-or_length (λ b. not (is_blank b)) is_blank c.args.bytes.now (λ b. not_not (is_blank b))
