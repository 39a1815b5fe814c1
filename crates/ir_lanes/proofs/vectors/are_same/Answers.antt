use Rattle.std.proofs.Common.{◌∙◌, ℕ, not, eqb, refl, sym, arith}
use Rattle.std.proofs.lemmas.Bool.{eqb-true}
use Rattle.ir_lanes.proofs.LaneLemmas.{none_pass, mask_none, same_when_not_ne}
use Rattle.ir_lanes.proofs.vectors.are_same.Goals as goal

pub returns : goal.returns
returns c t k l =
    let a = c.args.a in
    let b = c.args.b in
    let f = λ (x y : ℕ). not (eqb x y) in
    let none = mask_none f a b c.requires.left c.requires.right (eqb-true _ 0 t) in
    same_when_not_ne _ _ _ refl (none_pass f a b (c.requires.left ∙ sym c.requires.right) none k (omega (arith, l, c.requires.left)))
