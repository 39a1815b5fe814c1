use Rattle.std.proofs.Common.{sym, subst}
use Rattle.std.specs.Str.{IsUtf8}
use Rattle.ir_trace.proofs.ReadLines.{joined_utf8, found_words}
use Rattle.ir_trace.proofs.words.line_words.Goals as goal

pub returns-in_default : goal.returns-in_default
returns-in_default c words is = c.in_default.ensures.cases.0 (subst IsUtf8 (sym is.whole) (joined_utf8 words is.each))

pub returns-then-not-all_words : goal.returns-then-not-all_words
returns-then-not-all_words c =
    (found_words c.args.line.now c.in-Ok.text.now c.in_ok-words.words.items c.deref.result.now c.all_words.result
    c.in-Ok.ensures.cases.0 c.in_ok-words.ensures c.deref.ensures.value c.all_words.ensures).1 c.if-not-all_words.true

pub returns : goal.returns
returns c =
    (found_words c.args.line.now c.in-Ok.text.now c.in_ok-words.words.items c.deref.result.now c.all_words.result
    c.in-Ok.ensures.cases.0 c.in_ok-words.ensures c.deref.ensures.value c.all_words.ensures).0 c.if-not-all_words.false
