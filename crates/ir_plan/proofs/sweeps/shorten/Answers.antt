use Rattle.std.proofs.Common.{◌≡◌, ◌<◌, ◌+◌, ◌-◌, ◌∙◌, ℕ, ap, sym, subst, arith}
use Rattle.std.specs.Prelude.{All}
use Rattle.std.proofs.lemmas.List.Sorted.{All-permutation}
use Rattle.ir_plan.specs.Tour.{swept, shortened}
use Rattle.ir_plan.specs.Distances.{far_between}
use Rattle.ir_plan.proofs.Tours.{shortened_next, shortened_none, shortened_stays, swept_permutes}
use Rattle.ir_plan.proofs.sweeps.shorten.Goals as goal

pub loop-done-preserved : goal.loop-done-preserved
loop-done-preserved c =
    let far = far_between c.args.far.now.rows.items in
    let before = c.loop-done.order in
    let made = c.sweep.ensures.swept in
    let left = 16 - (c.loop-done.done + 1) in
    record {
      nodes = subst (All (λ (v : ℕ). v < c.args.far.now.nodes)) (sym made) (All-permutation (λ (v : ℕ). v < c.args.far.now.nodes) before (swept far before) (swept_permutes far before) c.loop-done.invariant.nodes);
      left = ap (shortened far left) made ∙ sym (shortened_next far left (16 - c.loop-done.done) before (omega arith)) ∙ c.loop-done.invariant.left;
    }

pub returns-then-not-sweep : goal.returns-then-not-sweep
returns-then-not-sweep c =
    let far = far_between c.args.far.now.rows.items in
    let before = c.loop-done.order in
    let same = c.sweep.ensures.same c.if-not-sweep.true in
    same ∙ sym (shortened_stays far (16 - c.loop-done.done) before (sym c.sweep.ensures.swept ∙ same)) ∙ c.loop-done.invariant.left

pub returns-after-loop-done : goal.returns-after-loop-done
returns-after-loop-done c =
    let far = far_between c.args.far.now.rows.items in
    let none : 16 - c.loop-done.done ≡ 0 = omega arith in
    sym (shortened_none far c.loop-done.order) ∙ ap (λ (k : ℕ). shortened far k c.loop-done.order) (sym none) ∙ c.loop-done.invariant.left
