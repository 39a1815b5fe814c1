use Rattle.std.proofs.Common.{rules, ◌≡◌, ◌++◌, true, string_bytes, ap, ◌∙◌}
use Rattle.ir_model.specs.Text.{words_of}
use Rattle.ir_json.specs.Signs.{filled}
use Rattle.ir_json.specs.Lists.{pairs_from}
use Rattle.ir_json.proofs.Pairs.{pairs_on}
use Rattle.ir_json.proofs.items.push_pairs.Goals as goal

pub loop-after-preserved : goal.loop-after-preserved
loop-after-preserved c =
    let template = c.args.template.now in
    let words = words_of c.loop-after.rest.now in
    let led : string_bytes c.push_str.new.text ≡ string_bytes c.loop-after.text ++ c.comma.result.now = search rules in
    let made : string_bytes c.push_filled.new.text ≡ string_bytes c.push_str.new.text ++ filled template words = search rules in
    let written : string_bytes c.push_filled.new.text ≡ (string_bytes c.loop-after.text ++ c.comma.result.now) ++ filled template words = made ∙ ap (λ t. t ++ filled template words) led in
    pairs_on template (string_bytes c.loop-after.text) (string_bytes c.push_filled.new.text) (string_bytes c.args.text.now ++ pairs_from template true (words_of c.args.line.now)) c.comma.result.now c.loop-after.is_first
    c.in-Some.field-0-0.now words (words_of c.in-Some.after.now) (words_of c.first_word.result.1.now) c.loop-after.invariant c.in-Some.ensures.0 c.comma.ensures written c.first_word.ensures.rest
