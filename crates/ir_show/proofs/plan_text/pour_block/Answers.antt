use Rattle.std.proofs.Common.{◌≡◌, ℕ, ◌+◌, ◌-◌, flat_map, subst, sym, arith}
use Rattle.std.specs.List.{range_with_len}
use Rattle.ir_model.specs.Graph.{names}
use Rattle.ir_streams.specs.Pouring.{Pours}
use Rattle.ir_streams.proofs.Poured.{pours_none, pours_on}
use Rattle.ir_show.specs.PlanText.{node_words}
use Rattle.ir_show.specs.Words.{line_text}
use Rattle.ir_show.proofs.PlanLines.{block_more}
use Rattle.ir_show.proofs.plan_text.pour_block.Goals as goal

pub loop-u-init : goal.loop-u-init
loop-u-init g c =
    let line = λ (u : ℕ). line_text (node_words (names c.args.pieces.now.graph) c.args.pieces.now.plan u) in
    let from = c.args.block.from in
    let none : from - from ≡ 0 = omega arith in
    subst (λ (n : ℕ). Pours g.W.Writer.contents g.W.Writer.wrote g.W.Writer.settled c.args.writer.now c.args.parts.now (flat_map line (range_with_len from n)) c.args.writer.now c.args.parts.now) (sym none)
    (pours_none g.W.Writer.contents g.W.Writer.wrote g.W.Writer.settled c.args.writer.now c.args.parts.now)

pub loop-u-preserved : goal.loop-u-preserved
loop-u-preserved g c =
    let line = λ (u : ℕ). line_text (node_words (names c.args.pieces.now.graph) c.args.pieces.now.plan u) in
    let from = c.args.block.from in
    let u = c.loop-u.u in
    pours_on g.W.Writer.contents g.W.Writer.wrote g.W.Writer.settled c.args.writer.now c.args.parts.now (flat_map line (range_with_len from (u - from))) c.loop-u.writer c.loop-u.parts (line u) c.pour_node.new.writer c.pour_node.new.parts c.loop-u.invariant c.pour_node.ensures
    (flat_map line (range_with_len from (u + 1 - from))) (block_more line from u (omega arith))

pub returns : goal.returns
returns g c =
    let line = λ (u : ℕ). line_text (node_words (names c.args.pieces.now.graph) c.args.pieces.now.plan u) in
    let from = c.args.block.from in
    let all : c.loop-u.u ≡ c.args.block.to = omega (arith, c.requires.block.0) in
    subst (λ (n : ℕ). Pours g.W.Writer.contents g.W.Writer.wrote g.W.Writer.settled c.args.writer.now c.args.parts.now (flat_map line (range_with_len from (n - from))) c.loop-u.writer c.loop-u.parts) all c.loop-u.invariant
