use Rattle.std.proofs.Common.{◌≡◌, ◌∙◌, ap, sym}
use Rattle.ir_model.specs.Graph.{names}
use Rattle.ir_model.specs.Topology.{node_count}
use Rattle.ir_plan.specs.Building.{labelling_of}
use Rattle.ir_show.proofs.Plans.{plan_by, plan_some}
use Rattle.ir_show.proofs.Spans.{span_whole}
use Rattle.ir_show.proofs.span.span_text_alone.Goals as goal

pub returns-clause-text : goal.returns-clause-text
returns-clause-text c =
    let net = c.args.topology.now in
    let numbers = c.in_ok-numbering.numbering in
    let made = plan_some net c.nodes.ensures.topology c.in_ok-numbering.ensures.connected numbers c.in_ok-numbering.ensures.labels c.args.kind c.requires.kind c.in_ok-numbering.ensures.some in
    record {
      plan = made.0;
      built = plan_by net c.args.kind numbers made.0 made.1 c.requires.kind (labelling_of c.args.labels) c.requires.alone c.in_ok-numbering.ensures.order;
      whole = c.in_ok-text_of_lines.ensures
          ∙ span_whole (names c.args.graph.now) made.0 c.args.kind c.nodes.result c.args.span.0 c.args.span.1 c.in_ok-lines.lines (sym made.1.of_kind)
          (c.nodes.ensures.count ∙ ap node_count (sym made.1.over)) (c.in_ok-lines.ensures made.0 made.1);
    }
