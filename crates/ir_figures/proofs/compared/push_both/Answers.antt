use Rattle.std.proofs.Common.{◌++◌, refl, string_bytes}
use Rattle.ir_figures.proofs.Rows.{row_by_depth, more_words}
use Rattle.ir_figures.proofs.compared.push_both.Goals as goal

pub returns-clause-rows : goal.returns-clause-rows
returns-clause-rows g c =
    let plan = c.args.plan in
    let first = c.in_ok-push_row.ensures.row in
    let second = c.in_ok-push_by_tour.ensures in (
      first.0 ++ second.0,
      (first.0, second.0, row_by_depth plan first.0 c.invariant.ensures.plan c.requires.first first.1, second.1, refl),
      more_words (string_bytes c.args.text.now) first.0 second.0 (string_bytes c.push_row.new.text) (string_bytes c.push_by_tour.new.text) first.2 second.2,
    )
