use Rattle.std.proofs.Common.{◌≡◌, ◌<◌, ◌+◌, ◌-◌, ◌∙◌, ℕ, List, length, refl, ap, sym, subst, arith}
use Rattle.std.specs.Prelude.{All, fold}
use Rattle.std.specs.List.{range_with_len}
use Rattle.std.proofs.lemmas.List.Sorted.{All-permutation}
use Rattle.ir_plan.specs.Tour.{tried, tried_from}
use Rattle.ir_plan.specs.Distances.{far_between}
use Rattle.ir_plan.proofs.Tours.{fold_none, fold_to_next, tried_permutes}
use Rattle.ir_plan.proofs.sweeps.sweep_from.Goals as goal
use Rattle.ir_plan.proofs.sweeps.sweep_from.Goals.{then-turn_shorter, else-turn_shorter}

pub loop-to-init : goal.loop-to-init
loop-to-init c = record {
  nodes = c.requires.nodes;
  so_far = fold_none (tried (far_between c.args.far.now.rows.items) c.args.from) (c.args.from + 1) (c.args.from + 1) c.args.order.now (omega arith);
  same = λ e. refl;
}

pub loop-to-preserved : goal.loop-to-preserved
loop-to-preserved c =
    let far = far_between c.args.far.now.rows.items in
    let i = c.args.from in
    let before = c.loop-to.order in
    let made = c.turn_shorter.ensures.tried in
    record {
      nodes = subst (All (λ (v : ℕ). v < c.args.far.now.nodes)) (sym made) (All-permutation (λ (v : ℕ). v < c.args.far.now.nodes) before (tried far i before c.loop-to.to) (tried_permutes far before i c.loop-to.to (omega arith)) c.loop-to.invariant.nodes);
      so_far = made ∙ ap (λ (xs : List ℕ). tried far i xs c.loop-to.to) c.loop-to.invariant.so_far ∙ sym (fold_to_next (tried far i) (i + 1) c.loop-to.to c.args.order.now (omega arith));
      same =
          elim c.if-turn_shorter.branch [
            | then-turn_shorter w ↦ λ e. absurd (cc (w.turned-is, e))
            | else-turn_shorter w ↦ λ e. c.turn_shorter.ensures.same w.if-turn_shorter.false ∙ c.loop-to.invariant.same (sym w.turned-is ∙ e)
          ];
    }

pub returns : goal.returns
unfolding tried_from
returns c =
    let far = far_between c.args.far.now.rows.items in
    let i = c.args.from in
    let all : c.loop-to.to ≡ length c.args.order.now = omega arith in
    record {
      tried = c.loop-to.invariant.so_far ∙ ap (λ (k : ℕ). fold (tried far i) c.args.order.now (range_with_len (i + 1) (k - (i + 1)))) all;
      same = c.loop-to.invariant.same;
    }
