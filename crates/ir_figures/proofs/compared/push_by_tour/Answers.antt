use Rattle.std.proofs.Common.{string_bytes}
use Rattle.ir_plan.proofs.Labelled.{as_itself}
use Rattle.ir_figures.proofs.Rows.{row_by_tour}
use Rattle.ir_figures.proofs.compared.push_by_tour.Goals as goal

pub returns-in-Some : goal.returns-in-Some
returns-in-Some g c =
    let like = rw c.in-Some.is at c.in_ok-found.ensures.like in
    let found = rw c.in-Some.is at c.in_ok-found.ensures.found in
    row_by_tour c.push_row.result c.args.plan.now c.in-Some.other (string_bytes c.args.text.now) (string_bytes c.push_row.new.text) like found c.push_row.ensures.row

pub returns-in-None : goal.returns-in-None
returns-in-None g c =
    let kept = c.in_ok-found.ensures.kept c.in-None.is in
    row_by_tour c.push_row-in-None.result c.args.plan.now c.args.plan.now (string_bytes c.args.text.now) (string_bytes c.push_row-in-None.new.text) (as_itself c.args.plan.now c.invariant.ensures.plan) kept c.push_row-in-None.ensures.row
