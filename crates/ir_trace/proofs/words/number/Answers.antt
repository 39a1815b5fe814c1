use Rattle.std.proofs.Common.{◌≡◌, ◌∙◌, sym, ap, subst, MatchOption, decimal}
use Rattle.ir_trace.specs.Spelled.{IsNoNumber, has_needless_front}
use Rattle.ir_trace.proofs.ReadNumbers.{no_number_needless, read_number}
use Rattle.ir_trace.proofs.words.number.Goals as goal

pub returns-then-has_needless_front : goal.returns-then-has_needless_front
returns-then-has_needless_front c = no_number_needless c.args.word.now (ap has_needless_front (sym c.as_bytes.ensures.value) ∙ sym c.has_needless_front.ensures ∙ c.if-has_needless_front.true)

pub returns : goal.returns
returns c =
    let word = c.args.word.now in
    subst (λ o. MatchOption o (IsNoNumber word) (λ n. decimal n ≡ word)) (sym c.ok.ensures.value)
    (read_number word c.parse.result c.parse.ensures.value.0 (ap has_needless_front (sym c.as_bytes.ensures.value) ∙ sym c.has_needless_front.ensures ∙ c.if-has_needless_front.false))
