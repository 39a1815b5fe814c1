use Rattle.std.proofs.Common.{◌≡◌, ℕ, ◌-◌, List, ◌++◌, flat_map, ap, arith}
use Rattle.std.specs.List.{range_with_len}
use Rattle.ir_model.specs.Graph.{names}
use Rattle.ir_model.specs.Topology.{node_count}
use Rattle.ir_streams.proofs.Poured.{pours_on}
use Rattle.ir_show.specs.PlanText.{plan_head, node_words, plan_text}
use Rattle.ir_show.specs.Words.{line_text}
use Rattle.ir_show.proofs.plan_text.pour_plan.Goals as goal

pub returns : goal.returns
returns g c =
    let p = c.args.pieces.now in
    let line = λ (u : ℕ). line_text (node_words (names p.graph) p.plan u) in
    let head : List ℕ = line_text (plan_head p.plan) in
    let n = c.nodes-nodes.result in
    let all : n - 0 ≡ node_count p.plan.topology = omega (arith, c.nodes-nodes.ensures.count) in
    pours_on g.W.Writer.contents g.W.Writer.wrote g.W.Writer.settled c.args.writer.now c.args.parts.now head c.pour_head.new.writer c.pour_head.new.parts (flat_map line (range_with_len 0 (n - 0))) c.pour_block.new.writer c.pour_block.new.parts c.pour_head.ensures c.pour_block.ensures
    (plan_text (names p.graph) p.plan) (ap (λ (k : ℕ). head ++ flat_map line (range_with_len 0 k)) all)
