use Rattle.std.proofs.Common.{◌≡◌, ◌≤◌, ℕ, ◌-◌, List, ◌++◌, flat_map, subst, sym, ◌∙◌, arith}
use Rattle.std.proofs.lemmas.List.{append-nil}
use Rattle.std.specs.List.{range_with_len}
use Rattle.ir_model.specs.Graph.{names}
use Rattle.ir_model.specs.Topology.{node_count}
use Rattle.ir_streams.specs.Pouring.{Pours}
use Rattle.ir_streams.proofs.Poured.{pours_in_vain, pours_on}
use Rattle.ir_show.specs.PlanText.{plan_head, node_words, plan_text}
use Rattle.ir_show.specs.Words.{line_text}
use Rattle.ir_show.proofs.PlanLines.{lines_more}
use Rattle.ir_show.proofs.plan_text.pour_plan_by.Goals as goal

pub loop-from-init : goal.loop-from-init
loop-from-init g c = record {
  within = omega arith;
  pours = subst (λ (t : List ℕ). Pours g.W.Writer.contents g.W.Writer.wrote g.W.Writer.settled c.args.writer.now c.args.parts.now t c.pour_head.new.writer c.pour_head.new.parts) (sym (append-nil (line_text (plan_head c.args.pieces.now.plan)))) c.pour_head.ensures;
}

pub loop-from-preserved : goal.loop-from-preserved
loop-from-preserved g c =
    let p = c.args.pieces.now in
    let line = λ (u : ℕ). line_text (node_words (names p.graph) p.plan u) in
    let head : List ℕ = line_text (plan_head p.plan) in
    let from = c.loop-from.from in
    let to = c.block_end-to.result in
    let on : from ≤ to = omega (arith, c.block_end-to.ensures.some) in
    record {
      within = omega (arith, c.block_end-to.ensures.within, c.nodes-nodes.ensures.count);
      pours = pours_on g.W.Writer.contents g.W.Writer.wrote g.W.Writer.settled c.args.writer.now c.args.parts.now (head ++ flat_map line (range_with_len 0 from)) c.loop-from.writer c.loop-from.parts (flat_map line (range_with_len from (to - from))) c.pour_lines.new.writer c.pour_lines.new.parts c.loop-from.invariant.pours c.pour_lines.ensures
          (head ++ flat_map line (range_with_len 0 to)) (lines_more line from to head on);
    }

-- once a write failed, the rest is written in vain
pub returns-then-has_failed : goal.returns-then-has_failed
returns-then-has_failed g c =
    let p = c.args.pieces.now in
    let line = λ (u : ℕ). line_text (node_words (names p.graph) p.plan u) in
    let head : List ℕ = line_text (plan_head p.plan) in
    let from = c.loop-from.from in
    let n = node_count p.plan.topology in
    let on : from ≤ n = omega (arith, c.nodes-nodes.ensures.count, c.loop-from.invariant.within) in
    let rest : List ℕ = flat_map line (range_with_len from (n - from)) in
    let vain = pours_in_vain g.W.Writer.contents g.W.Writer.wrote g.W.Writer.settled c.loop-from.writer c.loop-from.parts (sym c.has_failed.ensures ∙ c.if-has_failed.true) rest in
    pours_on g.W.Writer.contents g.W.Writer.wrote g.W.Writer.settled c.args.writer.now c.args.parts.now (head ++ flat_map line (range_with_len 0 from)) c.loop-from.writer c.loop-from.parts rest c.loop-from.writer c.loop-from.parts c.loop-from.invariant.pours vain
    (plan_text (names p.graph) p.plan) (lines_more line from n head on)

pub returns : goal.returns
returns g c =
    let p = c.args.pieces.now in
    let line = λ (u : ℕ). line_text (node_words (names p.graph) p.plan u) in
    let head : List ℕ = line_text (plan_head p.plan) in
    let all : c.loop-from.from ≡ node_count p.plan.topology = omega (arith, c.nodes-nodes.ensures.count, c.loop-from.invariant.within) in
    subst (λ (n : ℕ). Pours g.W.Writer.contents g.W.Writer.wrote g.W.Writer.settled c.args.writer.now c.args.parts.now (head ++ flat_map line (range_with_len 0 n)) c.loop-from.writer c.loop-from.parts) all c.loop-from.invariant.pours
