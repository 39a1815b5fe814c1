-- Answers in the form that the words ask for.
use Rattle.std.proofs.Common.{◌≡◌, ◌∙◌, false, None, if◌then◌else◌, refl, ap}
use Rattle.ir_cli.specs.declared.words.Words.{Words}
use Rattle.ir_cli.specs.declared.words.Sub.{Sub}
use Rattle.ir_cli.specs.Answer.{Answer, Ran, Found, Refused, NoThread}
use Rattle.ir_answer.specs.Formed.{shape_of, in_shape, asked_form}

-- without a shape an answer stays
same_without : (plain : Answer) → in_shape None plain ≡ plain
same_without (Ran text refusals) = refl
same_without (Found line) = refl
same_without (Refused line) = refl
same_without NoThread = refl

-- without JSON an answer stays
pub form_of_text : (sub : Sub) (words : Words) (plain : Answer) → words.json ≡ false → asked_form sub words plain ≡ plain
form_of_text sub words plain none = ap (λ b. in_shape (if b then shape_of sub words else None) plain) none ∙ same_without plain
