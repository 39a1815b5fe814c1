use Rattle.std.proofs.Common.{rules, ℕ, ◌≡◌, ◌∙◌, ◌<◌, ◌+◌, [], max, set, replicate, None, Some, sym, ap, subst, arith}
use Rattle.ir_trace.specs.Row.{TraceRow}
use Rattle.std.proofs.lemmas.Option.{slice_get_within}
use Rattle.std.specs.Ordering.{ord_max, nat_cmp}
use Rattle.ir_whole.specs.Injects.{inject_lines}
use Rattle.ir_whole.specs.Judged.{ends_wanted, stamp_wanted}
use Rattle.ir_whole.specs.Whole.{run_of}
use Rattle.ir_whole.proofs.Numbered.{IsTable, table_of_none}
use Rattle.ir_whole.proofs.Rows.{told_number, table_step, found_is, told_row, before_more}
use Rattle.ir_whole.proofs.whole.check_whole.Goals as goal

-- the greater of two numbers by their order
most : (a b : ℕ) → ord_max nat_cmp a b ≡ max a b
most a b = grind arith

pub loop-place-init : goal.loop-place-init
loop-place-init c = record {
  ends =
      (let none : c.in_ok-ends.ends.items ≡ replicate c.args.packets None = c.in_ok-ends.ensures.items_if_clones_equal (λ y p. search rules) in
      subst (IsTable ends_wanted c.args.packets [] 0) (sym none) (table_of_none ends_wanted c.args.packets));
  stamps =
      (let none : c.in_ok-stamps.stamps.items ≡ replicate c.args.packets None = c.in_ok-stamps.ensures.items_if_clones_equal (λ y p. search rules) in
      subst (IsTable stamp_wanted c.args.packets [] 0) (sym none) (table_of_none stamp_wanted c.args.packets));
  before = λ k other lt at. absurd (omega arith);
}

pub returns-clause-whole : goal.returns-clause-whole
returns-clause-whole c = λ k row at.
    (let lt = slice_get_within c.args.trace.now k row at in
    c.loop-place.invariant.before k row (omega (arith, c.rows-place-end.ensures)) at)

pub returns-then-packets-id-clause-finding : goal.returns-then-packets-id-clause-finding
returns-then-packets-id-clause-finding c =
    let id = ap (λ (r : TraceRow). r.id) c.row.view_is in
    told_number (run_of c.args.topology.now c.args.steps.now c.args.capacity c.args.packets) c.args.trace.now c.loop-place.place c.row-row.result.now c.row-row.ensures c.requires.ids
    c.loop-place.invariant.before (omega (arith, id, c.if-packets-id.true)) c.finding_at.result.line c.finding_at.result.kind c.finding_at.ensures

pub returns-in-Some-clause-finding : goal.returns-in-Some-clause-finding
returns-in-Some-clause-finding c =
    let run = run_of c.args.topology.now c.args.steps.now c.args.capacity c.args.packets in
    let rows = c.args.trace.now in
    let place = c.loop-place.place in
    let row = c.row-row.result.now in
    let id : c.row.inside.id ≡ row.id = ap (λ (r : TraceRow). r.id) c.row.view_is in
    let lt : row.id < c.args.packets = omega (arith, id, c.if-packets-id.false) in
    let used = c.loop-place.used in
    let inv = c.loop-place.invariant in
    let n_is : c.max-used.result ≡ max used (c.row.inside.id + 1) = c.max-used.ensures ∙ most used (c.row.inside.id + 1) in
    let es_is : c.as_slice.result.now ≡ set c.loop-place.ends.items c.row.inside.id (Some c.ends_wanted.result) = c.as_slice.ensures.value in
    let ss_is : c.as_slice-in-loop-place.result.now ≡ set c.loop-place.stamps.items c.row.inside.id (Some c.stamp_wanted.result) = c.as_slice-in-loop-place.ensures.value in
    let js_is : c.as_slice-in-loop-place-2.result.now ≡ inject_lines c.args.steps.now = c.as_slice-in-loop-place-2.ensures.value ∙ c.in_ok-injects.ensures in
    let found = found_is run rows place row c.row-row.ensures c.requires.ids inv.before used lt c.loop-place.ends.items c.loop-place.stamps.items inv.ends inv.stamps
    c.found_of-found.result c.max-used.result c.row.inside.id c.as_slice.result.now c.as_slice-in-loop-place.result.now c.as_slice-in-loop-place-2.result.now
    c.ends_wanted.result c.stamp_wanted.result c.cause_of-cause.result c.found_of-found.ensures n_is id es_is c.ends_wanted.ensures ss_is c.stamp_wanted.ensures js_is c.cause_of-cause.ensures in
    told_row run rows place row c.row-row.ensures c.requires.ids inv.before used lt c.loop-place.ends.items c.loop-place.stamps.items inv.ends inv.stamps
    c.in-Some.kind (sym c.in-Some.is ∙ found) c.finding_at-in-Some.result.line c.finding_at-in-Some.result.kind c.finding_at-in-Some.ensures

pub loop-place-preserved : goal.loop-place-preserved
loop-place-preserved c =
    let run = run_of c.args.topology.now c.args.steps.now c.args.capacity c.args.packets in
    let rows = c.args.trace.now in
    let place = c.loop-place.place in
    let row = c.row-row.result.now in
    let id : c.row.inside.id ≡ row.id = ap (λ (r : TraceRow). r.id) c.row.view_is in
    let lt : row.id < c.args.packets = omega (arith, id, c.if-packets-id.false) in
    let used = c.loop-place.used in
    let inv = c.loop-place.invariant in
    let n_is : c.max-used.result ≡ max used (c.row.inside.id + 1) = c.max-used.ensures ∙ most used (c.row.inside.id + 1) in
    let es_is : c.as_slice.result.now ≡ set c.loop-place.ends.items c.row.inside.id (Some c.ends_wanted.result) = c.as_slice.ensures.value in
    let ss_is : c.as_slice-in-loop-place.result.now ≡ set c.loop-place.stamps.items c.row.inside.id (Some c.stamp_wanted.result) = c.as_slice-in-loop-place.ensures.value in
    let js_is : c.as_slice-in-loop-place-2.result.now ≡ inject_lines c.args.steps.now = c.as_slice-in-loop-place-2.ensures.value ∙ c.in_ok-injects.ensures in
    let found = found_is run rows place row c.row-row.ensures c.requires.ids inv.before used lt c.loop-place.ends.items c.loop-place.stamps.items inv.ends inv.stamps
    c.found_of-found.result c.max-used.result c.row.inside.id c.as_slice.result.now c.as_slice-in-loop-place.result.now c.as_slice-in-loop-place-2.result.now
    c.ends_wanted.result c.stamp_wanted.result c.cause_of-cause.result c.found_of-found.ensures n_is id es_is c.ends_wanted.ensures ss_is c.stamp_wanted.ensures js_is c.cause_of-cause.ensures in
    record {
      ends = table_step run rows place row c.row-row.ensures c.requires.ids inv.before used lt ends_wanted c.loop-place.ends.items inv.ends c.max-used.result c.row.inside.id c.ends_wanted.result n_is id c.ends_wanted.ensures;
      stamps = table_step run rows place row c.row-row.ensures c.requires.ids inv.before used lt stamp_wanted c.loop-place.stamps.items inv.stamps c.max-used.result c.row.inside.id c.stamp_wanted.result n_is id c.stamp_wanted.ensures;
      before = before_more run rows place row c.row-row.ensures c.requires.ids inv.before used lt c.loop-place.ends.items c.loop-place.stamps.items inv.ends inv.stamps (sym c.in_default.is ∙ found);
    }
