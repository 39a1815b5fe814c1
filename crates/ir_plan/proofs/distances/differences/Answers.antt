use Rattle.std.proofs.Common.{◌≡◌, ℕ, not, length, ◌∙◌, ap, arith}
use Rattle.std.specs.Prelude.{count_by, slice_index, ◌==◌}
use Rattle.std.specs.List.{range_with_len}
use Rattle.std.proofs.lemmas.Bool.{ne_eqb, eq-eqb, not_from_false, not_from_true}
use Rattle.ir_plan.specs.Distances.{unlike}
use Rattle.ir_plan.proofs.Differences.{count_yes, count_no, count_few}
use Rattle.ir_plan.proofs.distances.differences.Goals as goal
use Rattle.ir_plan.proofs.distances.differences.Goals.{then-column-i, else-column-i}

pub overflow_add-count : goal.overflow_add-count
overflow_add-count c = omega (arith, count_few (λ u. not (slice_index c.args.column.now u == slice_index c.args.other.now u)) c.loop-i.i, c.loop-i.invariant)

pub loop-i-preserved : goal.loop-i-preserved
loop-i-preserved c =
    let x = slice_index c.args.column.now c.loop-i.i in
    let y = slice_index c.args.other.now c.loop-i.i in
    let p = λ (u : ℕ). not (slice_index c.args.column.now u == slice_index c.args.other.now u) in
    elim c.if-column-i.branch [
      | then-column-i w ↦ count_yes p c.loop-i.i c.loop-i.count c.if-column-i.count c.loop-i.invariant (not_from_false (x == y) (ne_eqb x y w.if-column-i.true)) w.count-is
      | else-column-i w ↦ count_no p c.loop-i.i c.loop-i.count c.if-column-i.count c.loop-i.invariant (not_from_true (x == y) (eq-eqb x y w.if-column-i.false)) w.count-is
    ]

pub returns : goal.returns
unfolding unlike
returns c =
    let all : c.loop-i.i ≡ length c.args.column.now = omega arith in
    c.loop-i.invariant ∙ ap (λ (k : ℕ). count_by (λ u. not (slice_index c.args.column.now u == slice_index c.args.other.now u)) (range_with_len 0 k)) all
