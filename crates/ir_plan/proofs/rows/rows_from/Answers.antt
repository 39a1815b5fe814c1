use Rattle.std.proofs.Common.{◌+◌, ◌*◌, ℕ, List, length, ap, arith}
use Rattle.std.specs.Prelude.{slice_index}
use Rattle.ir_model.specs.Row.{Start}
use Rattle.ir_plan.specs.NodeRows.{IsNodeRow}
use Rattle.ir_plan.proofs.BatchRows.{read_more}
use Rattle.ir_plan.proofs.rows.rows_from.Goals as goal

pub overflow_mul-first : goal.overflow_mul-first
overflow_mul-first c =
    let may = c.requires in
    let few = c.nodes-nodes.ensures.topology.few_nodes in
    let low = may.0 in
    record { fits = omega (arith, low, few) }

pub loop-place-init : goal.loop-place-init
loop-place-init c = record {
  every = ap (λ (rows : List (List Start)). length rows) c.in_ok-rows.ensures.items;
  each = λ k h. absurd (omega (arith, h));
}

pub overflow_cast-u : goal.overflow_cast-u
overflow_cast-u c =
    let inside = c.loop-place-test.true in
    let end = c.min-place-end.ensures in
    let count = c.nodes-nodes.ensures.count in
    let few = c.nodes-nodes.ensures.topology.few_nodes in
    omega (arith, inside, end, count, few)

pub row_at-requires : goal.row_at-requires
row_at-requires c =
    let may = c.requires in
    let inside = c.loop-place-test.true in
    let end = c.min-place-end.ensures in
    let count = c.nodes-nodes.ensures.count in
    record {
      labels = may.1;
      tree = may.2;
      prepared = may.3;
      connected = may.4;
      node = omega (arith, inside, end, count);
    }

pub loop-place-preserved : goal.loop-place-preserved
loop-place-preserved c =
    let net = c.args.topology.now in
    let numbers = c.args.numbering.now in
    let i = c.loop-place.invariant in
    let more = read_more (λ (k : ℕ) (row : List Start). IsNodeRow c.args.kind net numbers.order numbers.parents (slice_index numbers.labels (c.args.block * 16 + k)) row)
    c.loop-place.place c.loop-place.rows.items c.push.new.self.items c.in_ok-row_at.field-0 i.every i.each c.in_ok-push.ensures.items c.in_ok-row_at.ensures in
    record { every = more.0; each = more.1 }

pub returns : goal.returns
returns c =
    let i = c.loop-place.invariant in
    let long = i.every in
    let end = c.min-place-end.ensures in
    let count = c.nodes-nodes.ensures.count in
    let past = c.loop-place-test.false in
    let most = c.loop-place.auto.place-end in
    record { every = omega (arith, long, end, count, past, most); each = λ k h. i.each k (omega (arith, h, long)) }
