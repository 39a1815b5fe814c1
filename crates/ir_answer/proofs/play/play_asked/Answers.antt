use Rattle.std.proofs.Common.{Bool, sym, subst}
use Rattle.ir_answer.specs.Plays.{AnswersRunIf, listing_in}
use Rattle.ir_answer.specs.Stops.{Gives}
use Rattle.ir_answer.proofs.play.play_asked.Goals as goal

pub returns-then-words : goal.returns-then-words
returns-then-words g c =
    let asked = c.args.asked.now in
    subst (λ (b : Bool). Gives (AnswersRunIf b asked.graph c.args.words.now (listing_in asked.script) asked.root) c.steps_asked.result) (sym c.if-words.true) c.steps_asked.ensures

pub returns-else-words : goal.returns-else-words
returns-else-words g c =
    let asked = c.args.asked.now in
    subst (λ (b : Bool). Gives (AnswersRunIf b asked.graph c.args.words.now (listing_in asked.script) asked.root) c.trace_asked.result) (sym c.if-words.false) c.trace_asked.ensures
