use Rattle.std.proofs.Common.{Bool, sym, subst}
use Rattle.ir_streams.specs.Writing.{Writes}
use Rattle.ir_streams.proofs.Sent.{settles, broken}
use Rattle.ir_streams.proofs.writing.write_text.Goals as goal

pub returns-then-put_all-clause-bytes : goal.returns-then-put_all-clause-bytes
returns-then-put_all-clause-bytes g c =
    subst (λ (sent : Bool). Writes sent (g.W.Writer.contents c.args.writer.now) (g.W.Writer.contents c.flush.new.writer) c.args.text.now) (sym c.is_ok.ensures.value)
    (settles g.W.Writer.contents g.W.Writer.wrote g.W.Writer.settled c.args.writer.now c.args.text.now c.put_all.new.writer c.if-put_all.ensures c.flush.new.writer c.flush.ensures.bytes c.flush.result c.flush.ensures.calls).1

pub returns-else-put_all-clause-bytes : goal.returns-else-put_all-clause-bytes
returns-else-put_all-clause-bytes g c =
    subst (λ (sent : Bool). Writes sent (g.W.Writer.contents c.args.writer.now) (g.W.Writer.contents c.put_all.new.writer) c.args.text.now) (sym c.if-put_all.false)
    (broken g.W.Writer.contents g.W.Writer.wrote g.W.Writer.settled c.args.writer.now c.args.text.now c.put_all.new.writer c.if-put_all.ensures).1
