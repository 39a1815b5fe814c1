use Rattle.std.proofs.Common.{◌∙◌, ap, refl, not, ◌==◌, unwrap_or, length}
use Rattle.ir_model.proofs.Pieces.{position-or_length}
use Rattle.ir_adjlist.proofs.scan.before.Goals as goal

pub returns-clause-len : goal.returns-clause-len
returns-clause-len c = c.unwrap_or.ensures ∙ ap (λ o. unwrap_or o (length c.args.bytes.now)) c.find_byte.ensures ∙ position-or_length (λ b. b == c.args.end) (λ b. not (b == c.args.end)) c.args.bytes.now (λ b. refl)
