use Rattle.std.proofs.Common.{◌≡◌, ap, ◌∙◌, subst, inl, inr, map, string_bytes}
use Rattle.ir_cli.specs.Refusals.{AsksForHelp, RefusesWords}
use Rattle.page.specs.Calls.{typed_words}
use Rattle.page.proofs.Refused.{refused_so}
use Rattle.page.proofs.words.asked.Goals as goal

pub returns-in_ok-words-in-Ok-clause-refused : goal.returns-in_ok-words-in-Ok-clause-refused
returns-in_ok-words-in-Ok-clause-refused c =
    let same : map string_bytes c.as_slice.result.now ≡ typed_words c.args.text.now =
    ap (map string_bytes) c.as_slice.ensures.value ∙ c.in_ok-words-in-Ok.ensures ∙ ap typed_words c.in-Ok.ensures.cases.0 in
    refused_so c.read_words.result (λ refuses. inr (inl (subst RefusesWords same refuses))) (λ asks. inr (inr (subst AsksForHelp same asks))) c.read_words.ensures.refused
