use Rattle.std.proofs.Common.{◌≡◌, ◌∙◌, ◌+◌, ◌<◌, ◌≤◌, ◌-◌, ◌*◌, ℕ, List, ap, arith, length, string_bytes, subst, sym, refl}
use Rattle.ir_model.specs.Graph.{names}
use Rattle.ir_model.specs.Topology.{Topology, node_count}
use Rattle.ir_model.specs.Plan.{row_in}
use Rattle.ir_model.specs.Row.{Start}
use Rattle.ir_show.specs.SpanLines.{AreItsPorts, words_of_row}
use Rattle.ir_show.specs.Words.{line_text}
use Rattle.ir_show.proofs.Spans.{all_lines, its_ports, none_so_far, one_more, row_few}
use Rattle.ir_show.proofs.span.lines_of.Goals as goal

pub loop-u-init : goal.loop-u-init
loop-u-init c = record {
  so = none_so_far (names c.args.graph.now) c.args.plan.now c.args.first _ c.new-text.ensures.bytes;
  few = omega arith;
}

pub push_line-requires-clause-ports : goal.push_line-requires-clause-ports
push_line-requires-clause-ports c =
    let s = c.args.plan.now in
    let u = c.loop-u.u in
    let u_in : u < node_count s.topology = omega (arith, c.requires.nodes, c.requires.within) in
    subst (λ (t : Topology). AreItsPorts t u c.row-row.result.now) (sym c.topology.ensures)
    (subst (AreItsPorts s.topology u) (sym c.row-row.ensures.row) (its_ports s c.invariant.ensures.plan u u_in))

pub overflow_add-starts : goal.overflow_add-starts
overflow_add-starts c =
    let s = c.args.plan.now in
    let u = c.loop-u.u in
    let u_in : u < node_count s.topology = omega (arith, c.requires.nodes, c.requires.within) in
    let few = row_few s c.invariant.ensures.plan u u_in in
    let least = c.invariant.ensures.plan.topology.few_nodes in
    let so_far = c.loop-u.invariant.few in
    let row = ap (λ (r : List Start). length r) c.row-row.ensures.row in
    omega (arith, few, least, so_far, row, c.requires.nodes, c.requires.within)

pub loop-u-preserved : goal.loop-u-preserved
loop-u-preserved c =
    let s = c.args.plan.now in
    let nodes = names c.args.graph.now in
    let u = c.loop-u.u in
    let u_in : u < node_count s.topology = omega (arith, c.requires.nodes, c.requires.within) in
    let few = row_few s c.invariant.ensures.plan u u_in in
    let least = c.invariant.ensures.plan.topology.few_nodes in
    let so_far = c.loop-u.invariant.few in
    let row = ap (λ (r : List Start). length r) c.row-row.ensures.row in
    let words : words_of_row nodes c.topology.result.now u c.label_of-label.result c.row-row.result.now ≡ words_of_row nodes s.topology u c.label_of-label.result (row_in s u) =
    ap (λ (t : Topology). words_of_row nodes t u c.label_of-label.result c.row-row.result.now) c.topology.ensures
    ∙ ap (λ (r : List Start). words_of_row nodes s.topology u c.label_of-label.result r) c.row-row.ensures.row in
    record {
      so = one_more nodes s c.args.first u _ _ (omega arith) c.loop-u.invariant.so
          (line_text (words_of_row nodes c.topology.result.now u c.label_of-label.result c.row-row.result.now)) _ c.len-starts.result
          (ap line_text (words ∙ ap (λ (l : ℕ). words_of_row nodes s.topology u l (row_in s u)) c.label_of-label.ensures)) c.in_ok-push_line.ensures
          (c.len-starts.ensures.len ∙ row);
      few = omega (arith, few, least, so_far, row, c.len-starts.ensures.len);
    }

pub returns : goal.returns
returns c =
    let end : c.loop-u.u ≡ c.args.last + 1 = omega (arith, c.requires.order) in
    all_lines (names c.args.graph.now) c.args.plan.now c.args.first c.args.last c.loop-u.u _ (omega (arith, end)) c.loop-u.invariant.so
