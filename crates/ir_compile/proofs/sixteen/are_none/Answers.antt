use Rattle.std.proofs.Common.{ℕ, ◌∙◌, not, eqb, refl, sym, arith, w32}
use Rattle.std.proofs.lemmas.Bool.{eqb-true}
use Rattle.std.proofs.lemmas.Simd.{bitmask_splat}
use Rattle.ir_compile.proofs.ShortRuns.{no_lane, is_none}
use Rattle.ir_compile.proofs.sixteen.are_none.Goals as goal

pub returns : goal.returns
returns c t k l =
    let lanes = c.args.lanes in
    let none = sym (bitmask_splat w32 (λ (x y : ℕ). not (eqb x y)) lanes 16 0 c.requires (omega arith)) ∙ eqb-true _ 0 t in
    is_none _ _ refl (no_lane (λ (x : ℕ). not (eqb x 0)) lanes none k (omega (arith, l, c.requires)))
