use Rattle.std.proofs.Common.{◌∙◌, ℕ, List, ap, sym, subst, refl, arith}
use Rattle.ir_model.specs.Walk.{IsDistance}
use Rattle.ir_tables.specs.Relaxation.{at}
use Rattle.ir_figures.proofs.far.first_pair.Goals as goal

pub returns : goal.returns
returns c =
    let s = c.args.plan.now in
    let to = c.in_ok-distances.ensures in
    let distance = c.weight_at-distance.ensures ∙ ap (λ (ws : List ℕ). at ws 0) c.as_slice.ensures.value in
    record {
      two = omega (arith, c.if-nodes-lt2.false, c.nodes.ensures.count);
      from = refl;
      to = refl;
      far = subst (λ (w : ℕ). IsDistance s.topology 0 1 w) (sym distance) (to.each 0 (omega (arith, c.if-nodes-lt2.false, c.nodes.ensures.count)));
      walk = refl;
    }
