use Rattle.std.proofs.Common.{◌∙◌, ℕ, List, ap, subst, flat_map}
use Rattle.std.specs.Global.{Vec}
use Rattle.ir_streams.specs.Pouring.{Pours}
use Rattle.ir_show.proofs.plan_text.pour_lines.Goals as goal

pub returns-in-Some : goal.returns-in-Some
returns-in-Some g c =
    let made = rw c.in-Some.is at c.requires.made in
    subst (λ (t : List ℕ). Pours g.W.Writer.contents g.W.Writer.wrote g.W.Writer.settled c.args.writer.now c.args.parts.now t c.pour_texts.new.writer c.pour_texts.new.parts)
    (ap (λ (ts : List (Vec ℕ)). flat_map (λ (text : Vec ℕ). text.items) ts) c.as_slice.ensures.value ∙ made) c.pour_texts.ensures

pub returns-in-None : goal.returns-in-None
returns-in-None g c = search depth 0
