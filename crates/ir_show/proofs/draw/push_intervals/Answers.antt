use Rattle.std.proofs.Common.{◌<◌, ◌≤◌, ◌==◌, ◌∙◌, ◌++◌, ℕ, List, length, map, ap, sym, arith, string_bytes, get_or}
use Rattle.std.specs.List.{join_with_byte}
use Rattle.std.proofs.lemmas.List.{take_all}
use Rattle.ir_model.specs.Interval.{PortInterval}
use Rattle.ir_model.specs.Row.{intervals_of}
use Rattle.ir_model.specs.Plan.{row_in}
use Rattle.ir_model.proofs.Rows.{length-intervals_of}
use Rattle.ir_show.specs.WalkText.{no_interval}
use Rattle.ir_show.specs.Before.{separated}
use Rattle.ir_show.specs.Drawing.{goes_by, interval_text}
use Rattle.ir_show.proofs.Drawn.{shown_intervals, shown_more, shown_same, no_longer_first}
use Rattle.ir_show.proofs.draw.push_intervals.Goals as goal
use Rattle.ir_show.proofs.draw.push_intervals.Goals.{then-goes_by+in_ok-push_separated, else-goes_by}

pub loop-i-preserved : goal.loop-i-preserved
loop-i-preserved c =
    let s = c.args.plan.now in
    let ms = intervals_of (row_in s c.args.u) in
    let test = goes_by s.topology c.args.u c.args.link in
    let old = string_bytes c.args.text.now in
    let i_in : c.loop-i.i < length ms = omega (arith, c.loop-i-test.true, c.len-count.ensures.len, ap length c.row.ensures.row, length-intervals_of (row_in s c.args.u)) in
    let is = c.interval_at-interval.ensures.interval in
    elim c.if-goes_by.branch [
      | then-goes_by+in_ok-push_separated w ↦
          let passes_test = ap test (sym is) ∙ sym c.goes_by.ensures ∙ w.if-goes_by.true in (
            ap string_bytes w.text-is ∙ w.in_ok-push_separated.ensures ∙ ap (λ (m : PortInterval). string_bytes c.loop-i.text ++ separated c.loop-i.first (interval_text m)) is
                ∙ ap (λ (t : List ℕ). t ++ separated c.loop-i.first (interval_text (get_or ms c.loop-i.i no_interval))) c.loop-i.invariant.0
                ∙ shown_more test ms c.loop-i.i i_in old c.loop-i.first c.loop-i.invariant.1 passes_test,
            w.first-is ∙ no_longer_first test ms c.loop-i.i i_in passes_test,
          )
      | else-goes_by w ↦
          let same = shown_same test ms c.loop-i.i i_in (ap test (sym is) ∙ sym c.goes_by.ensures ∙ w.if-goes_by.false) in (
            ap string_bytes w.text-is ∙ c.loop-i.invariant.0 ∙ ap (λ (fs : List PortInterval). old ++ join_with_byte 32 (map interval_text fs)) (sym same),
            w.first-is ∙ c.loop-i.invariant.1 ∙ ap (λ (fs : List PortInterval). length fs == 0) (sym same),
          )
    ]

pub returns : goal.returns
returns c =
    let ms = intervals_of (row_in c.args.plan.now c.args.u) in
    let past : length ms ≤ c.loop-i.i = omega (arith, c.loop-i-test.false, c.len-count.ensures.len, ap length c.row.ensures.row, length-intervals_of (row_in c.args.plan.now c.args.u)) in
    c.loop-i.invariant.0 ∙ ap (λ (xs : List PortInterval). string_bytes c.args.text.now ++ shown_intervals (goes_by c.args.plan.now.topology c.args.u c.args.link) xs) (take_all c.loop-i.i ms past)
