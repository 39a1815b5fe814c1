use Rattle.std.proofs.Common.{take, flat_map}
use Rattle.ir_model.specs.Graph.{names}
use Rattle.ir_model.specs.Plan.{row_in}
use Rattle.ir_streams.specs.Pouring.{Pours}
use Rattle.ir_trace.specs.Rows.{spaced}
use Rattle.ir_show.specs.PlanText.{start_words}
use Rattle.ir_show.proofs.plan_text.pour_starts.Given as goal

abbrev pub invariant-loop-i : goal.invariant-loop-i
invariant-loop-i g l =
    Pours g.W.Writer.contents g.W.Writer.wrote g.W.Writer.settled l.fn.writer l.fn.parts (flat_map spaced (flat_map (start_words (names l.pieces.graph) l.pieces.plan.topology l.u) (take l.i (row_in l.pieces.plan l.u)))) l.writer l.parts
