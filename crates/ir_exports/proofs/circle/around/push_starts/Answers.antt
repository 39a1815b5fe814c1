use Rattle.std.proofs.Common.{◌<◌, ◌≤◌, ◌∙◌, ◌++◌, ℕ, List, ap, sym, arith, length, flat_map, get_or, string_bytes}
use Rattle.std.proofs.lemmas.Bool.{le-leb, lt-leb}
use Rattle.std.proofs.lemmas.List.{append-nil, take_all}
use Rattle.ir_model.specs.Interval.{PortInterval}
use Rattle.ir_model.specs.Topology.{node_count}
use Rattle.ir_model.specs.Row.{intervals_of}
use Rattle.ir_model.specs.Plan.{row_in}
use Rattle.ir_model.proofs.Rows.{length-intervals_of}
use Rattle.ir_show.specs.WalkText.{no_interval}
use Rattle.ir_exports.specs.Around.{bound}
use Rattle.ir_exports.proofs.Written.{intervals_more}
use Rattle.ir_exports.proofs.circle.around.push_starts.Goals as goal

pub loop-i-preserved : goal.loop-i-preserved
loop-i-preserved c =
    let line = bound (node_count c.args.plan.now.topology) in
    let ms = intervals_of (row_in c.args.plan.now c.args.u) in
    let i_in : c.loop-i.i < length ms = omega (arith, c.loop-i-test.true, c.len-count.ensures.len, ap length c.row.ensures.row, length-intervals_of (row_in c.args.plan.now c.args.u)) in
    c.in_ok-push_bound.ensures ∙ ap (λ (t : List ℕ). t ++ line (get_or ms c.loop-i.i no_interval)) c.loop-i.invariant ∙ intervals_more line ms c.loop-i.i i_in (string_bytes c.args.text.now)

pub returns-then-count-gt64 : goal.returns-then-count-gt64
returns-then-count-gt64 c =
    let row = row_in c.args.plan.now c.args.u in
    let many : 64 < length row = omega (arith, c.if-count-gt64.true, c.len-count.ensures.len, ap length c.row.ensures.row) in
    rw (lt-leb (length row) 64 many) (sym (append-nil (string_bytes c.args.text.now)))

pub returns : goal.returns
returns c =
    let line = bound (node_count c.args.plan.now.topology) in
    let row = row_in c.args.plan.now c.args.u in
    let ms = intervals_of row in
    let few : length row ≤ 64 = omega (arith, c.if-count-gt64.false, c.len-count.ensures.len, ap length c.row.ensures.row) in
    let past : length ms ≤ c.loop-i.i = omega (arith, c.loop-i-test.false, c.len-count.ensures.len, ap length c.row.ensures.row, length-intervals_of row) in
    rw (le-leb (length row) 64 few) (c.loop-i.invariant ∙ ap (λ (xs : List PortInterval). string_bytes c.args.text.now ++ flat_map line xs) (take_all c.loop-i.i ms past))
