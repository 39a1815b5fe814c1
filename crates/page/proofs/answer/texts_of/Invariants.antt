use Rattle.std.proofs.Common.{◌≡◌, take, map}
use Rattle.page.specs.Calls.{text_for}
use Rattle.page.proofs.answer.texts_of.Given as goal

abbrev pub invariant-loop-i : goal.invariant-loop-i
invariant-loop-i l = map (λ text. text.now) l.texts.items ≡ map (text_for l.topology l.script l.trace) (take l.i l.sources)
