use Rattle.std.proofs.Common.{◌≡◌, ap, ◌∙◌}
use Rattle.ir_model.specs.Plan.{row_in}
use Rattle.ir_figures.specs.Compactness.{intervals_at}
use Rattle.ir_figures.proofs.Counted.{most_first, most_next, most_stays}
use Rattle.ir_figures.proofs.most.more_of.Goals as goal

pub returns-in_default : goal.returns-in_default
returns-in_default c =
    let s = c.args.plan.now in
    let count : c.intervals_at.result ≡ intervals_at (row_in s c.args.u) c.args.p = c.intervals_at.ensures ∙ ap (λ row. intervals_at row c.args.p) c.row.ensures.row in
    let none = rw c.in_default.is at c.requires.best in
    most_first s c.args.u c.args.p c.intervals_at.result c.requires.port count none

pub returns-then-most-next : goal.returns-then-most-next
returns-then-most-next c =
    let s = c.args.plan.now in
    let count : c.intervals_at.result ≡ intervals_at (row_in s c.args.u) c.args.p = c.intervals_at.ensures ∙ ap (λ row. intervals_at row c.args.p) c.row.ensures.row in
    let some = rw c.in-Some.is at c.requires.best in
    most_next s c.args.u c.args.p c.intervals_at.result c.in-Some.most c.requires.port count c.if-most-next.true some

pub returns-else-most-next : goal.returns-else-most-next
returns-else-most-next c =
    let s = c.args.plan.now in
    let count : c.intervals_at.result ≡ intervals_at (row_in s c.args.u) c.args.p = c.intervals_at.ensures ∙ ap (λ row. intervals_at row c.args.p) c.row.ensures.row in
    let some = rw c.in-Some.is at c.requires.best in
    most_stays s c.args.u c.args.p c.intervals_at.result c.in-Some.most count c.if-most-next.false some
