use Rattle.std.proofs.Common.{rules, ◌≡◌, false, codes}
use Rattle.ir_model.specs.Text.{words_of, is_empty}
use Rattle.ir_json.specs.Forms.{word_at, is_word_at}
use Rattle.ir_json.proofs.form.row_form.Goals as goal

pub returns-in-Walk-2 : goal.returns-in-Walk-2
returns-in-Walk-2 c =
    let some : is_empty (word_at (words_of c.args.line.now) 2) ≡ false = search rules in
    rw (c.in-Walk-2.is, some) c.plain-in-Walk-2.ensures

pub returns-in-Failures-3 : goal.returns-in-Failures-3
returns-in-Failures-3 c =
    let kept : is_word_at (words_of c.args.line.now) 2 (codes "disconnected") ≡ false = search rules in
    let some : is_empty (word_at (words_of c.args.line.now) 8) ≡ false = search rules in
    rw (c.in-Failures-3.is, kept, some) c.plain-in-Failures-3.ensures

pub returns-in-Losses-4 : goal.returns-in-Losses-4
returns-in-Losses-4 c =
    let kept : is_word_at (words_of c.args.line.now) 1 (codes "disconnected") ≡ false = search rules in
    let left : is_word_at (words_of c.args.line.now) 1 (codes "empty") ≡ false = search rules in
    let some : is_empty (word_at (words_of c.args.line.now) 7) ≡ false = search rules in
    rw (c.in-Losses-4.is, kept, left, some) c.plain-in-Losses-4.ensures
