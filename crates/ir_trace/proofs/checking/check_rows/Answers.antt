use Rattle.std.proofs.Common.{◌≡◌, ◌∙◌, Some, ap, sym, subst, arith, take}
use Rattle.std.specs.Ordering.{nat_cmp}
use Rattle.std.specs.BTreeSet as tree
use Rattle.std.proofs.lemmas.Grind.{common_steps}
use Rattle.std.proofs.lemmas.List.{take_all}
use Rattle.std.proofs.lemmas.Option.{slice_get-get_or}
use Rattle.ir_trace.specs.Row.{TraceRow}
use Rattle.ir_trace.specs.Checked.{AreFine}
use Rattle.ir_trace.proofs.CheckedTrace.{row_told, id_told, fine_more, was_there, was_not_there, there_more}
use Rattle.ir_trace.proofs.checking.check_rows.Goals as goal

pub found_of-requires-clause-row : goal.found_of-requires-clause-row
found_of-requires-clause-row c =
    let i = c.loop-i.i in
    c.requires.rows i c.index-rows-i.result (slice_get-get_or c.args.rows.now i c.index-rows-i.result (omega arith) ∙ ap (λ (r : TraceRow). Some r) (sym c.index-rows-i.is))

pub returns-in-Some-clause-finding : goal.returns-in-Some-clause-finding
returns-in-Some-clause-finding c =
    let i = c.loop-i.i in
    let is = c.requires.rows i c.index-rows-i.result (slice_get-get_or c.args.rows.now i c.index-rows-i.result (omega arith) ∙ ap (λ (r : TraceRow). Some r) (sym c.index-rows-i.is)) in
    row_told c.args.topology.now c.args.plans.now c.args.rows.now i c.index-rows-i.result (omega arith) c.index-rows-i.is c.loop-i.invariant.fine c.requires.over is c.in-Some.kind c.in-Some.ensures

pub returns-then-not-branch-clause-finding : goal.returns-then-not-branch-clause-finding
returns-then-not-branch-clause-finding c =
    let i = c.loop-i.i in
    let is = c.requires.rows i c.index-rows-i.result (slice_get-get_or c.args.rows.now i c.index-rows-i.result (omega arith) ∙ ap (λ (r : TraceRow). Some r) (sym c.index-rows-i.is)) in
    id_told c.args.topology.now c.args.plans.now c.args.rows.now i c.index-rows-i.result (omega arith) c.index-rows-i.is c.loop-i.invariant.fine c.requires.over is c.in_default.ensures
    (let id : c.row.inside.id ≡ c.index-rows-i.result.id = ap (λ (r : TraceRow). r.id) c.row.view_is in
    sym (c.loop-i.invariant.seen c.index-rows-i.result.id) ∙ ap (tree.contains nat_cmp c.loop-i.seen) (sym id) ∙ was_there c.in_ok-insert.field-0 _ c.in_ok-insert.ensures.added c.if-not-branch.true)

pub loop-i-preserved : goal.loop-i-preserved
loop-i-preserved c =
    let i = c.loop-i.i in
    let is = c.requires.rows i c.index-rows-i.result (slice_get-get_or c.args.rows.now i c.index-rows-i.result (omega arith) ∙ ap (λ (r : TraceRow). Some r) (sym c.index-rows-i.is)) in
    let id : c.row.inside.id ≡ c.index-rows-i.result.id = ap (λ (r : TraceRow). r.id) c.row.view_is in
    record {
      fine = fine_more c.args.topology.now c.args.plans.now c.args.rows.now i c.index-rows-i.result (omega arith) c.index-rows-i.is c.loop-i.invariant.fine c.requires.over is c.in_default.ensures
          (sym (c.loop-i.invariant.seen c.index-rows-i.result.id) ∙ ap (tree.contains nat_cmp c.loop-i.seen) (sym id) ∙ was_not_there c.in_ok-insert.field-0 _ c.in_ok-insert.ensures.added c.if-not-branch.false);
      seen = λ q. (let more = there_more c.args.rows.now i c.index-rows-i.result q (omega arith) c.index-rows-i.is in let step = c.in_ok-insert.ensures.updates.0 q in let old = c.loop-i.invariant.seen q in grind (arith, common_steps, id, more, step, old));
    }

pub returns-clause-fine : goal.returns-clause-fine
returns-clause-fine c =
    let all : take c.loop-i.i c.args.rows.now ≡ c.args.rows.now = take_all c.loop-i.i c.args.rows.now (omega arith) in
    let P = AreFine c.args.topology.now c.args.plans.now in
    subst P all c.loop-i.invariant.fine
