use Rattle.std.proofs.Common.{◌≡◌, ◌↔◌, ◌∙◌, ◌%◌, ◌^◌, ◌<◌, eqb, get_or, length, sym, subst, refl, arith, w16, w32, Fits}
use Rattle.std.specs.Simd.Lanes.{zip2, mask_l}
use Rattle.std.proofs.lemmas.Simd.{tops_compared, mask_l-lt, mask_l-mod, length-zip2}
use Rattle.ir_lanes.specs.Inward.{IsSet}
use Rattle.ir_lanes.proofs.LaneLemmas.{same_bit}
use Rattle.ir_lanes.proofs.Words.{bit_is}
use Rattle.ir_lanes.proofs.vectors.same_lanes.Goals as goal

pub overflow_cast-result : goal.overflow_cast-result
overflow_cast-result c =
    let a = c.args.a in
    let b = c.args.b in
    let long : length (zip2 eqb a b) ≡ 16 = length-zip2 eqb a b (c.requires.left ∙ sym c.requires.right) ∙ c.requires.left in
    let few : mask_l (zip2 eqb a b) < 2 ^ 16 = subst (λ n. mask_l (zip2 eqb a b) < 2 ^ n) long (mask_l-lt (zip2 eqb a b)) in
    let whole : mask_l (zip2 eqb a b) % 2 ^ 64 ≡ mask_l (zip2 eqb a b) = mask_l-mod (zip2 eqb a b) 64 (omega (arith, long)) in
    subst (λ ms. Fits w16 (mask_l ms % 2 ^ 64)) (sym (tops_compared w32 eqb a b)) (record { fits = omega (arith, few, whole) })

pub returns : goal.returns
returns c = λ k l.
    let a = c.args.a in
    let b = c.args.b in
    let long : length (zip2 eqb a b) ≡ 16 = length-zip2 eqb a b (c.requires.left ∙ sym c.requires.right) ∙ c.requires.left in
    let whole : mask_l (zip2 eqb a b) % 2 ^ 64 ≡ mask_l (zip2 eqb a b) = mask_l-mod (zip2 eqb a b) 64 (omega (arith, long)) in
    subst (λ ms. IsSet (mask_l ms % 2 ^ 64) k ↔ (get_or a k 0 ≡ get_or b k 0)) (sym (tops_compared w32 eqb a b))
    (subst (λ w. IsSet w k ↔ (get_or a k 0 ≡ get_or b k 0)) (sym whole)
    (bit_is (get_or a k 0) (get_or b k 0) (mask_l (zip2 eqb a b)) k (eqb (get_or a k 0) (get_or b k 0)) refl (same_bit a b c.requires.left c.requires.right k l)))
