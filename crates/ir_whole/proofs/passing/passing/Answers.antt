use Rattle.std.proofs.Common.{◌≡◌, ◌∙◌, ◌+◌, ℕ, get_or, sym, ap}
use Rattle.std.proofs.lemmas.List.Sums.{count_by_more_yes, count_by_more_no}
use Rattle.std.proofs.lemmas.Option.{slice_get_within, get_or_from_slice_get}
use Rattle.ir_whole.specs.Causes.{may_pass}
use Rattle.ir_whole.proofs.passing.passing.Goals.{then-may_pass, else-may_pass}
use Rattle.ir_whole.proofs.passing.passing.Goals as goal

pub loop-place-preserved : goal.loop-place-preserved
loop-place-preserved c =
    let i = c.loop-place.place in
    let rows = c.args.trace.now in
    let row = c.row.result.now in
    let lt = slice_get_within rows i row c.row.ensures in
    let here : get_or rows i row ≡ row = get_or_from_slice_get rows i row row c.row.ensures in
    elim c.if-may_pass.branch [
      | then-may_pass w ↦ w.count-is ∙ ap (λ (n : ℕ). n + 1) c.loop-place.invariant
          ∙ sym (count_by_more_yes (may_pass c.args.from c.args.to) rows i row lt (ap (may_pass c.args.from c.args.to) here ∙ sym c.may_pass.ensures ∙ w.if-may_pass.true))
      | else-may_pass w ↦ w.count-is ∙ c.loop-place.invariant
          ∙ sym (count_by_more_no (may_pass c.args.from c.args.to) rows i row lt (ap (may_pass c.args.from c.args.to) here ∙ sym c.may_pass.ensures ∙ w.if-may_pass.false))
    ]
