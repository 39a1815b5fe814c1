use Rattle.std.proofs.Common.{rules, ◌≡◌, false, inl, inr}
use Rattle.ir_model.specs.Text.{words_of, is_empty}
use Rattle.ir_json.specs.Forms.{word_at}
use Rattle.ir_json.proofs.form.head_form.Goals as goal

pub returns-in-Failures-2 : goal.returns-in-Failures-2
returns-in-Failures-2 c =
    let some : is_empty (word_at (words_of c.args.line.now) 11) ≡ false = search rules in
    elim c.in-Failures-2.is [
      | inl e ↦ rw (e, some) c.plain-in-Failures-2.ensures
      | inr e ↦ rw (e, some) c.plain-in-Failures-2.ensures
    ]
