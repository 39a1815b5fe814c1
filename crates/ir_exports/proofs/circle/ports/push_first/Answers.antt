use Rattle.std.proofs.Common.{◌<◌, ◌≤◌, ◌==◌, ◌∙◌, ◌++◌, ℕ, Bool, List, [], length, take, filter, flat_map, ap, sym, arith, string_bytes, get_or, append_assoc}
use Rattle.std.specs.Prelude.{if◌then◌else◌, nat_lt}
use Rattle.std.proofs.lemmas.List.{take_all, length-take-le}
use Rattle.std.proofs.lemmas.List.Sums.{length-filter, count_by-le-length}
use Rattle.ir_model.specs.Interval.{PortInterval}
use Rattle.ir_model.specs.Row.{intervals_of}
use Rattle.ir_model.specs.Plan.{row_in}
use Rattle.ir_model.proofs.Rows.{length-intervals_of}
use Rattle.ir_trace.specs.Rows.{spaced}
use Rattle.ir_show.specs.WalkText.{no_interval}
use Rattle.ir_exports.specs.Ports.{said, count_text}
use Rattle.ir_exports.proofs.Written.{first_more, seen_more, seen_same}
use Rattle.ir_exports.proofs.circle.ports.push_first.Goals as goal
use Rattle.ir_exports.proofs.circle.ports.push_first.Goals.{then-goes_by+in_ok-push_early, else-goes_by}

pub overflow_add-seen : goal.overflow_add-seen
overflow_add-seen c =
    let ms = intervals_of (row_in c.args.plan.now c.args.u) in
    let test : PortInterval → Bool = λ m. m.port == c.args.port in
    let i_in : c.loop-i.i < length ms = omega (arith, c.loop-i-test.true, c.len-count.ensures.len, ap length c.row.ensures.row, length-intervals_of (row_in c.args.plan.now c.args.u)) in
    let few : length (filter test (take c.loop-i.i ms)) ≤ length (take c.loop-i.i ms) =
    omega (arith, length-filter test (take c.loop-i.i ms), count_by-le-length test (take c.loop-i.i ms)) in
    let within : length (take c.loop-i.i ms) ≤ c.loop-i.i = omega (arith, length-take-le c.loop-i.i ms (omega (arith, i_in))) in
    omega (arith, c.loop-i.invariant.1, few, within, c.loop-i-test.true)

pub loop-i-preserved : goal.loop-i-preserved
loop-i-preserved c =
    let ms = intervals_of (row_in c.args.plan.now c.args.u) in
    let test : PortInterval → Bool = λ m. m.port == c.args.port in
    let line : PortInterval → List ℕ = λ m. spaced (said m) in
    let old = string_bytes c.args.text.now in
    let i_in : c.loop-i.i < length ms = omega (arith, c.loop-i-test.true, c.len-count.ensures.len, ap length c.row.ensures.row, length-intervals_of (row_in c.args.plan.now c.args.u)) in
    let is = c.interval_at-interval.ensures.interval in
    elim c.if-goes_by.branch [
      | then-goes_by+in_ok-push_early w ↦
          let passes_test = ap test (sym is) ∙ sym c.goes_by.ensures ∙ w.if-goes_by.true in (
            ap string_bytes w.text-is ∙ w.in_ok-push_early.ensures ∙ ap (λ (m : PortInterval). string_bytes c.loop-i.text ++ (if nat_lt c.loop-i.seen 6 then line m else [])) is
                ∙ ap (λ (t : List ℕ). t ++ (if nat_lt c.loop-i.seen 6 then line (get_or ms c.loop-i.i no_interval) else [])) c.loop-i.invariant.0
                ∙ first_more line 6 test ms c.loop-i.i i_in old c.loop-i.seen c.loop-i.invariant.1 passes_test,
            w.seen-is ∙ seen_more line 6 test ms c.loop-i.i i_in c.loop-i.seen c.loop-i.invariant.1 passes_test,
          )
      | else-goes_by w ↦
          let same = seen_same line 6 test ms c.loop-i.i i_in (ap test (sym is) ∙ sym c.goes_by.ensures ∙ w.if-goes_by.false) in (
            ap string_bytes w.text-is ∙ c.loop-i.invariant.0 ∙ ap (λ (fs : List PortInterval). old ++ flat_map line (take 6 fs)) (sym same),
            w.seen-is ∙ c.loop-i.invariant.1 ∙ ap (λ (fs : List PortInterval). length fs) (sym same),
          )
    ]

pub returns : goal.returns
returns c =
    let ms = intervals_of (row_in c.args.plan.now c.args.u) in
    let test : PortInterval → Bool = λ m. m.port == c.args.port in
    let line : PortInterval → List ℕ = λ m. spaced (said m) in
    let old = string_bytes c.args.text.now in
    let past : length ms ≤ c.loop-i.i = omega (arith, c.loop-i-test.false, c.len-count.ensures.len, ap length c.row.ensures.row, length-intervals_of (row_in c.args.plan.now c.args.u)) in
    c.in_ok-push_count.ensures ∙ ap (λ (t : List ℕ). t ++ count_text c.loop-i.seen) c.loop-i.invariant.0
    ∙ ap (λ (k : ℕ). (old ++ flat_map line (take 6 (filter test (take c.loop-i.i ms)))) ++ count_text k) c.loop-i.invariant.1
    ∙ ap (λ (xs : List PortInterval). (old ++ flat_map line (take 6 (filter test xs))) ++ count_text (length (filter test xs))) (take_all c.loop-i.i ms past)
    ∙ append_assoc old (flat_map line (take 6 (filter test ms))) (count_text (length (filter test ms)))
