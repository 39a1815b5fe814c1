use Rattle.std.proofs.Common.{◌++◌, ◌≤◌, ◌-◌, flat_map}
use Rattle.std.specs.List.{range_with_len}
use Rattle.ir_model.specs.Graph.{names}
use Rattle.ir_streams.specs.Pouring.{Pours}
use Rattle.ir_show.specs.PlanText.{plan_head, node_words}
use Rattle.ir_show.specs.Words.{line_text}
use Rattle.ir_show.proofs.plan_text.pour_plan_by.Given as goal

abbrev pub invariant-loop-from : goal.invariant-loop-from
invariant-loop-from g l = record {
  within : l.from ≤ l.nodes;
  pours : Pours g.W.Writer.contents g.W.Writer.wrote g.W.Writer.settled l.fn.writer l.fn.parts (line_text (plan_head l.pieces.plan) ++ flat_map (λ u. line_text (node_words (names l.pieces.graph) l.pieces.plan u)) (range_with_len 0 l.from)) l.writer l.parts;
}

abbrev pub decreases-loop-from : goal.decreases-loop-from
decreases-loop-from g l = l.nodes - l.from
