use Rattle.std.proofs.Common.{◌-◌, flat_map}
use Rattle.std.specs.List.{range_with_len}
use Rattle.ir_model.specs.Graph.{names}
use Rattle.ir_streams.specs.Pouring.{Pours}
use Rattle.ir_show.specs.PlanText.{node_words}
use Rattle.ir_show.specs.Words.{line_text}
use Rattle.ir_show.proofs.plan_text.pour_block.Given as goal

abbrev pub invariant-loop-u : goal.invariant-loop-u
invariant-loop-u g l =
    Pours g.W.Writer.contents g.W.Writer.wrote g.W.Writer.settled l.fn.writer l.fn.parts (flat_map (λ u. line_text (node_words (names l.pieces.graph) l.pieces.plan u)) (range_with_len l.fn.block.from (l.u - l.fn.block.from))) l.writer l.parts
