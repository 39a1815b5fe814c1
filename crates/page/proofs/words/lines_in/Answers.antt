use Rattle.std.proofs.Common.{◌≡◌, ◌<◌, ◌++◌, length, map, string_bytes, sym, ap, ◌∙◌, arith, rules}
use Rattle.std.proofs.lemmas.Str.Pattern.{split_parts}
use Rattle.std.proofs.lemmas.Bool.Decides.{nat_tests}
use Rattle.ir_model.specs.Text.{lines}
use Rattle.page.proofs.Lines.{line_more, all_and_last, all_of_it}
use Rattle.page.proofs.words.lines_in.Goals.{then-not-is_empty+in_ok-from_str-2+in_ok-push-2, else-not-is_empty}
use Rattle.page.proofs.words.lines_in.Goals as goal

pub lines-preserved : goal.lines-preserved
lines-preserved c =
    let l = c.lines in
    let behind = c.in-Some.behind.now in
    let cut = rw c.in-Some.is at (split_parts 10 l.rest.now c.split_once.result c.split_once.ensures.cases (omega arith)) in
    let turn = line_more string_bytes c.args.text.now l.found.items l.rest.now l.invariant.0 c.in_ok-from_str.field-0 c.in-Some.line.now behind
    cut.0 cut.1 c.in_ok-from_str.ensures.ok in
    (turn ∙ ap (λ items. map string_bytes items ++ lines behind) (sym c.in_ok-push.ensures.items), search rules)

pub returns : goal.returns
returns c =
    let l = c.lines in
    let text = c.args.text.now in
    let none = rw c.in_default.is at (split_parts 10 l.rest.now c.split_once.result c.split_once.ensures.cases (omega arith)) in
    elim c.if-not-is_empty.branch [
      | then-not-is_empty+in_ok-from_str-2+in_ok-push-2 w ↦
          let some : 0 < length l.rest.now = grind (arith, nat_tests) in
          ap (λ vec. map string_bytes vec.items) w.found-is ∙ ap (map string_bytes) w.in_ok-push-2.ensures.items
          ∙ all_and_last string_bytes text l.found.items l.rest.now l.invariant.0 w.in_ok-from_str-2.field-0 none some w.in_ok-from_str-2.ensures.ok
      | else-not-is_empty w ↦
          let none : length l.rest.now ≡ 0 = grind (arith, nat_tests) in
          ap (λ vec. map string_bytes vec.items) w.found-is ∙ all_of_it string_bytes text l.found.items l.rest.now l.invariant.0 none
    ]
