use Rattle.std.proofs.Common.{List, ℕ, [], ◌∷◌, ap}
use Rattle.ir_streams.proofs.Poured.{pours_on}
use Rattle.ir_show.proofs.plan_text.pour_word.Goals as goal

pub returns : goal.returns
returns g c =
    pours_on g.W.Writer.contents g.W.Writer.wrote g.W.Writer.settled c.args.writer.now c.args.parts.now (32 ∷ []) c.push.new.writer c.push.new.self c.as_bytes.result.now c.push-2.new.writer c.push-2.new.self
    c.push.ensures.writes c.push-2.ensures.writes (32 ∷ c.args.word.now) (ap (λ (t : List ℕ). 32 ∷ t) c.as_bytes.ensures.value)
