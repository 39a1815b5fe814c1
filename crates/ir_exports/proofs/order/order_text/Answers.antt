use Rattle.std.proofs.Common.{◌≡◌, ◌++◌, ◌∙◌, ap, List, ℕ, [], arith, flat_map}
use Rattle.std.specs.List.{range_with_len}
use Rattle.ir_model.specs.Graph.{names}
use Rattle.ir_model.specs.Topology.{node_count}
use Rattle.ir_show.proofs.PlanLines.{nodes_more}
use Rattle.ir_exports.specs.OrderText.{label_line}
use Rattle.ir_exports.proofs.order.order_text.Goals as goal

pub loop-label-preserved : goal.loop-label-preserved
loop-label-preserved c =
    let line = label_line (names c.args.graph.now) c.args.plan.now in
    c.in_ok-push_label.ensures ∙ ap (λ (t : List ℕ). t ++ line c.loop-label.label) c.loop-label.invariant ∙ nodes_more line c.loop-label.label []

pub returns : goal.returns
returns c =
    let line = label_line (names c.args.graph.now) c.args.plan.now in
    let all : c.loop-label.label ≡ node_count c.args.plan.now.topology = omega (arith, c.loop-label-test.false, c.loop-label.auto.label-end, c.nodes-label-end.ensures.count) in
    c.loop-label.invariant ∙ ap (λ (k : ℕ). flat_map line (range_with_len 0 k)) all
