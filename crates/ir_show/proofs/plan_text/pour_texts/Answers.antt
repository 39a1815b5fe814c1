use Rattle.std.proofs.Common.{ℕ, ◌+◌, ◌∙◌, take, flat_map, ap, arith}
use Rattle.std.specs.Global.{Vec}
use Rattle.ir_streams.proofs.Poured.{pours_none, pours_on}
use Rattle.ir_show.proofs.Pieces.{texts_more}
use Rattle.ir_show.proofs.plan_text.pour_texts.Goals as goal

pub loop-text-init : goal.loop-text-init
loop-text-init g c = pours_none g.W.Writer.contents g.W.Writer.wrote g.W.Writer.settled c.args.writer.now c.args.parts.now

pub loop-text-preserved : goal.loop-text-preserved
loop-text-preserved g c =
    let texts = c.args.texts.now in
    let i = c.loop-text.text-index in
    pours_on g.W.Writer.contents g.W.Writer.wrote g.W.Writer.settled c.args.writer.now c.args.parts.now (flat_map (λ t. t.items) (take i texts)) c.loop-text.writer c.loop-text.parts c.as_slice.result.now c.push.new.writer c.push.new.self
    c.loop-text.invariant c.push.ensures.writes (flat_map (λ t. t.items) (take (i + 1) texts)) (texts_more texts i c.text-item.result c.as_slice.result.now (omega (arith, c.loop-text-test.true)) (c.as_slice.ensures.value ∙ ap (λ (t : Vec ℕ). t.items) c.text-item.is))
