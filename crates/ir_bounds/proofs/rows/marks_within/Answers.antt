use Rattle.std.proofs.Common.{◌≡◌, ◌+◌, ◌≤◌, ◌↔◌, ℕ, true, inl, inr, arith, length}
use Rattle.std.specs.Prelude.{slice_index}
use Rattle.ir_bounds.proofs.Marks.{marked_more}
use Rattle.ir_bounds.proofs.rows.marks_within.Goals as goal
use Rattle.ir_bounds.proofs.rows.marks_within.Goals.{then-leads+in_ok-push-2, else-leads}

pub loop-label-preserved : goal.loop-label-preserved
loop-label-preserved c =
    let order = c.args.numbering.now.order in
    let P : ℕ → Type 0 = λ d. c.args.weight + slice_index c.args.theirs.now (slice_index order d) ≤ slice_index c.args.own.now (slice_index order d) in
    let i = c.loop-label.label in
    let tells : (c.is_within-leads.result ≡ true) ↔ P i = rw c.node_of-d.ensures at c.is_within-leads.ensures in
    marked_more P i c.loop-label.row.items c.push.new.self.items c.loop-label.marked.items c.if-leads.marked.items c.is_within-leads.result c.loop-label.invariant c.in_ok-push.ensures.items tells
    (elim c.if-leads.branch [
      | then-leads+in_ok-push-2 w ↦ inl (w.if-leads.true, rw w.marked-is w.in_ok-push-2.ensures.items)
      | else-leads w ↦ inr (w.if-leads.false, rw w.marked-is (λ _. c.loop-label.marked.items))
    ])

pub returns-clause-marks : goal.returns-clause-marks
returns-clause-marks c =
    let all : c.loop-label.label ≡ length c.args.own.now = omega (arith, c.loop-label.auto.label-end, c.loop-label-test.false) in
    let so_far = c.loop-label.invariant in
    record { every = omega (arith, so_far.every, all); marks = λ d lt. so_far.marks d (omega (arith, lt, all)) }

pub returns-clause-marked : goal.returns-clause-marked
returns-clause-marked c =
    let all : c.loop-label.label ≡ length c.args.own.now = omega (arith, c.loop-label.auto.label-end, c.loop-label-test.false) in
    let so_far = c.loop-label.invariant in
    record { label = λ d has. (let l = so_far.label d has in omega (arith, l, all)); every = λ d lt m. so_far.has d (omega (arith, lt, all)) m }
