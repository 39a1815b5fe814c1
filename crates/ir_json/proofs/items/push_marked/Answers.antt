use Rattle.std.proofs.Common.{rules, ◌≡◌, ◌++◌, true, string_bytes, ap, ◌∙◌}
use Rattle.ir_model.specs.Text.{words_of}
use Rattle.ir_json.specs.Lists.{is_still_first, marked_item, marked_from}
use Rattle.ir_json.specs.Signs.{first_word}
use Rattle.ir_json.proofs.Marked.{marked_on}
use Rattle.ir_json.proofs.items.push_marked.Goals as goal

pub loop-word-preserved : goal.loop-word-preserved
loop-word-preserved c =
    let mark = c.args.mark.now in
    let template = c.args.template.now in
    let split = c.in-Some.ensures.0 in
    let made : string_bytes c.push_marked_item.new.text ≡ string_bytes c.loop-word.text ++ marked_item mark template c.loop-word.is_first (words_of c.loop-word.rest.now) = search rules in
    marked_on mark template (string_bytes c.loop-word.text) (string_bytes c.push_marked_item.new.text) (string_bytes c.args.text.now ++ marked_from mark template true (words_of c.args.line.now))
    c.loop-word.is_first _ c.in-Some.word.now (words_of c.loop-word.rest.now) (words_of c.in-Some.after.now) (words_of c.after_mark-rest.result.now)
    c.loop-word.invariant split made (c.in_ok-is_first.ensures.first ∙ ap (λ ws. is_still_first mark c.loop-word.is_first (first_word ws)) split) c.after_mark-rest.ensures.words
