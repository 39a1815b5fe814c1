use Rattle.std.proofs.Common.{◌≡◌, ℕ, ◌+◌, ◌∙◌, [], length, ap, sym, arith}
use Rattle.std.specs.Prelude.{slice_index_or}
use Rattle.std.specs.Global.{Vec}
use Rattle.std.proofs.lemmas.List.{length_push}
use Rattle.ir_plan.specs.Distances.{lists_of, unlike}
use Rattle.ir_plan.proofs.Lists.{read_pushed, list_at, lists_length}
use Rattle.ir_plan.proofs.distances.row.Goals as goal

pub differences-requires-clause-same : goal.differences-requires-clause-same
differences-requires-clause-same c =
    let item = c.column-item.result in
    ap length c.as_slice.ensures.value ∙ ap (λ (v : Vec ℕ). length v.items) c.column-item.is ∙ c.requires.square c.loop-column.column-index item c.loop-column-test.true

pub loop-column-preserved : goal.loop-column-preserved
loop-column-preserved c =
    let i = c.loop-column.column-index in
    let item = c.column-item.result in
    let here : c.as_slice.result.now ≡ slice_index_or (lists_of c.args.columns.now) i [] =
    c.as_slice.ensures.value ∙ ap (λ (v : Vec ℕ). v.items) c.column-item.is ∙ sym (list_at c.args.columns.now i item c.loop-column-test.true) in
    record {
      every = ap length c.in_ok-push.ensures.items ∙ length_push c.loop-column.row.items c.differences.result ∙ ap (λ (k : ℕ). k + 1) c.loop-column.invariant.every;
      each = read_pushed (λ (b : ℕ). unlike c.args.own.now (slice_index_or (lists_of c.args.columns.now) b [])) c.loop-column.row.items c.push.new.self.items i c.differences.result c.loop-column.invariant.every c.loop-column.invariant.each
          c.in_ok-push.ensures.items (c.differences.ensures ∙ ap (unlike c.args.own.now) here);
    }

pub returns : goal.returns
returns c =
    let len : length (lists_of c.args.columns.now) ≡ length c.args.columns.now = lists_length c.args.columns.now in
    record {
      every = omega (arith, c.loop-column.invariant.every, len);
      each = λ b lt. c.loop-column.invariant.each b (omega (arith, lt, len));
    }
