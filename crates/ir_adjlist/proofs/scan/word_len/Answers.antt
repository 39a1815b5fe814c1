use Rattle.std.proofs.Common.{◌∙◌, ap, refl, not, unwrap_or, length}
use Rattle.ir_model.specs.Text.{is_blank}
use Rattle.ir_model.proofs.Pieces.{position-or_length}
use Rattle.ir_adjlist.proofs.scan.word_len.Goals as goal

pub returns-clause-len : goal.returns-clause-len
returns-clause-len c = c.unwrap_or.ensures ∙ ap (λ o. unwrap_or o (length c.args.bytes.now)) c.find_blank.ensures ∙ position-or_length is_blank (λ b. not (is_blank b)) c.args.bytes.now (λ b. refl)
