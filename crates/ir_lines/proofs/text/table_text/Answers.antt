use Rattle.std.proofs.Common.{◌++◌, List, ℕ, sym, ap, ◌∙◌, string_bytes}
use Rattle.std.proofs.lemmas.List.{append-nil, drop_all}
use Rattle.ir_lines.specs.Texts.{word_end, text_from}
use Rattle.ir_lines.proofs.Texts.{text_more}
use Rattle.ir_lines.proofs.text.table_text.Goals as goal

pub loop-place-preserved : goal.loop-place-preserved
loop-place-preserved c =
    text_more (string_bytes c.loop-place.text) c.args.words.now c.loop-place.place _ (text_from 0 c.args.words.now) c.loop-place-test.true
    (c.in_ok-push_end.ensures ∙ ap (λ (t : List ℕ). t ++ word_end c.loop-place.place) c.in_ok-push_word.ensures) c.loop-place.invariant

pub returns : goal.returns
returns c =
    let words = c.args.words.now in
    let place = c.loop-place.place in
    sym (append-nil (string_bytes c.loop-place.text))
    ∙ ap (λ (rest : List ℕ). string_bytes c.loop-place.text ++ text_from place rest) (sym (drop_all place words c.loop-place-test.false))
    ∙ c.loop-place.invariant
