use Rattle.std.proofs.Common.{◌≡◌, ◌<◌, ◌-◌, ◌∙◌, ℕ, List, length, inl, inr, ap, sym, subst, arith}
use Rattle.std.specs.Prelude.{All, fold}
use Rattle.std.specs.List.{range_with_len}
use Rattle.std.proofs.lemmas.List.Sorted.{All-permutation}
use Rattle.std.proofs.lemmas.Bool.{cases_lt}
use Rattle.ir_plan.specs.Tour.{tried_from, swept}
use Rattle.ir_plan.specs.Distances.{far_between}
use Rattle.ir_plan.proofs.Tours.{fold_to_next, tried_from_permutes}
use Rattle.ir_plan.proofs.sweeps.sweep.Goals as goal
use Rattle.ir_plan.proofs.sweeps.sweep.Goals.{then-sweep_from, else-sweep_from}

pub loop-from-preserved : goal.loop-from-preserved
loop-from-preserved c =
    let far = far_between c.args.far.now.rows.items in
    let before = c.loop-from.order in
    let made = c.sweep_from.ensures.tried in
    record {
      nodes = subst (All (λ (v : ℕ). v < c.args.far.now.nodes)) (sym made) (All-permutation (λ (v : ℕ). v < c.args.far.now.nodes) before (tried_from far before c.loop-from.from) (tried_from_permutes far before c.loop-from.from) c.loop-from.invariant.nodes);
      so_far = made ∙ ap (λ (xs : List ℕ). tried_from far xs c.loop-from.from) c.loop-from.invariant.so_far ∙ sym (fold_to_next (tried_from far) 1 c.loop-from.from c.args.order.now (omega arith));
      same =
          elim c.if-sweep_from.branch [
            | then-sweep_from w ↦ λ e. absurd (cc (w.turned-is, e))
            | else-sweep_from w ↦ λ e. c.sweep_from.ensures.same w.if-sweep_from.false ∙ c.loop-from.invariant.same (sym w.turned-is ∙ e)
          ];
      few = omega arith;
    }

pub returns : goal.returns
unfolding swept
returns c =
    let far = far_between c.args.far.now.rows.items in
    let all : c.loop-from.from - 1 ≡ length c.args.order.now - 1 =
    elim (cases_lt 0 (length c.args.order.now)) [
      | inl some ↦ let end = c.loop-from.auto.from-end (omega arith) in omega arith
      | inr none ↦ let few = c.loop-from.invariant.few in omega arith
    ] in
    record {
      swept = c.loop-from.invariant.so_far ∙ ap (λ (k : ℕ). fold (tried_from far) c.args.order.now (range_with_len 1 k)) all;
      same = c.loop-from.invariant.same;
    }
