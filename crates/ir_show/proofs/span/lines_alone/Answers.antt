use Rattle.std.proofs.Common.{◌≡◌, ◌∙◌, ◌+◌, ◌<◌, ◌≤◌, ◌-◌, ◌*◌, ℕ, List, ap, arith, length, string_bytes, subst, sym, refl}
use Rattle.ir_model.specs.Graph.{names}
use Rattle.ir_model.specs.Topology.{Topology, node_count}
use Rattle.ir_model.specs.Row.{Start}
use Rattle.ir_show.specs.SpanLines.{AreItsPorts, words_of_row}
use Rattle.ir_show.specs.Words.{line_text}
use Rattle.ir_show.proofs.Plans.{plan_some}
use Rattle.ir_show.proofs.Spans.{all_lines, alone_few, alone_ports, alone_starts, alone_words, none_so_far, one_more}
use Rattle.ir_show.proofs.span.lines_alone.Goals as goal

pub loop-u-init : goal.loop-u-init
loop-u-init c = record {
  so = λ plan is. none_so_far (names c.args.graph.now) plan c.args.span.0 _ c.new-text.ensures.bytes;
  few = omega arith;
}

pub push_line-requires-clause-ports : goal.push_line-requires-clause-ports
push_line-requires-clause-ports c =
    let net = c.args.topology.now in
    let numbers = c.args.numbering.now in
    let u = c.loop-u.u in
    let u_in : u < node_count net = omega (arith, c.requires.nodes, c.requires.within) in
    let plan = plan_some net c.invariant.ensures.topology c.requires.connected numbers c.requires.labels c.args.kind c.requires.kind (omega (arith, u_in)) in
    alone_ports net c.args.kind c.requires.kind numbers plan.0 plan.1 u u_in c.in_ok-row.row c.in_ok-row.ensures

pub overflow_add-starts : goal.overflow_add-starts
overflow_add-starts c =
    let net = c.args.topology.now in
    let numbers = c.args.numbering.now in
    let u = c.loop-u.u in
    let u_in : u < node_count net = omega (arith, c.requires.nodes, c.requires.within) in
    let plan = plan_some net c.invariant.ensures.topology c.requires.connected numbers c.requires.labels c.args.kind c.requires.kind (omega (arith, u_in)) in
    let few = alone_few net c.args.kind c.requires.kind numbers plan.0 plan.1 u u_in c.in_ok-row.row c.in_ok-row.ensures in
    let least = c.invariant.ensures.topology.few_nodes in
    let so_far = c.loop-u.invariant.few in
    omega (arith, few, least, so_far, c.requires.nodes, c.requires.within)

pub loop-u-preserved : goal.loop-u-preserved
loop-u-preserved c =
    let net = c.args.topology.now in
    let numbers = c.args.numbering.now in
    let nodes = names c.args.graph.now in
    let u = c.loop-u.u in
    let row = c.in_ok-row.row in
    let u_in : u < node_count net = omega (arith, c.requires.nodes, c.requires.within) in
    let made = plan_some net c.invariant.ensures.topology c.requires.connected numbers c.requires.labels c.args.kind c.requires.kind (omega (arith, u_in)) in
    let few = alone_few net c.args.kind c.requires.kind numbers made.0 made.1 u u_in row c.in_ok-row.ensures in
    let least = c.invariant.ensures.topology.few_nodes in
    let so_far = c.loop-u.invariant.few in
    record {
      so = λ plan is. one_more nodes plan c.args.span.0 u _ _ (omega arith) (c.loop-u.invariant.so plan is)
          (line_text (words_of_row nodes net u c.label_of-label.result row)) _ c.len-starts.result
          (ap line_text (alone_words net c.args.kind c.requires.kind numbers plan is u u_in row c.in_ok-row.ensures nodes c.label_of-label.result c.label_of-label.ensures)) c.in_ok-push_line.ensures
          (c.len-starts.ensures.len ∙ alone_starts net c.args.kind c.requires.kind numbers plan is u u_in row c.in_ok-row.ensures);
      few = omega (arith, few, least, so_far, c.len-starts.ensures.len);
    }

pub returns : goal.returns
returns c = λ plan is.
    let end : c.loop-u.u ≡ c.args.span.1 + 1 = omega (arith, c.requires.order) in
    all_lines (names c.args.graph.now) plan c.args.span.0 c.args.span.1 c.loop-u.u _ (omega (arith, end)) (c.loop-u.invariant.so plan is)
