use Rattle.std.proofs.Common.{◌+◌, ap, arith, length, take, get_or, flat_map}
use Rattle.ir_model.specs.Graph.{names}
use Rattle.ir_model.specs.Plan.{row_in}
use Rattle.ir_model.proofs.Rows.{no_start}
use Rattle.ir_trace.specs.Rows.{spaced}
use Rattle.ir_streams.proofs.Poured.{pours_none, pours_on}
use Rattle.ir_show.specs.PlanText.{start_words}
use Rattle.ir_show.proofs.PlanLines.{starts_more}
use Rattle.ir_show.proofs.plan_text.pour_starts.Goals as goal

pub loop-i-init : goal.loop-i-init
loop-i-init g c = pours_none g.W.Writer.contents g.W.Writer.wrote g.W.Writer.settled c.args.writer.now c.args.parts.now

pub loop-i-preserved : goal.loop-i-preserved
loop-i-preserved g c =
    let row = row_in c.args.pieces.now.plan c.args.u in
    let words = start_words (names c.args.pieces.now.graph) c.args.pieces.now.plan.topology c.args.u in
    let i = c.loop-i.i in
    pours_on g.W.Writer.contents g.W.Writer.wrote g.W.Writer.settled c.args.writer.now c.args.parts.now (flat_map spaced (flat_map words (take i row))) c.loop-i.writer c.loop-i.parts (flat_map spaced (words (get_or row i no_start))) c.pour_start.new.writer c.pour_start.new.parts
    c.loop-i.invariant c.pour_start.ensures (flat_map spaced (flat_map words (take (i + 1) row))) (starts_more words row i (omega (arith, ap length c.row.ensures.row)))
