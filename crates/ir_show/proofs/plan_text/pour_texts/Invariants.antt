use Rattle.std.proofs.Common.{take, flat_map}
use Rattle.ir_streams.specs.Pouring.{Pours}
use Rattle.ir_show.proofs.plan_text.pour_texts.Given as goal

abbrev pub invariant-loop-text : goal.invariant-loop-text
invariant-loop-text g l =
    Pours g.W.Writer.contents g.W.Writer.wrote g.W.Writer.settled l.fn.writer l.fn.parts (flat_map (λ text. text.items) (take l.text-index l.texts)) l.writer l.parts
