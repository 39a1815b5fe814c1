use Rattle.std.proofs.Common.{◌≡◌, ◌≢◌, ◌+◌, ◌-◌, ◌<◌, ℕ, List, length, refl, sym, subst, ◌∙◌, inl, inr, arith, set, length-set, get_or-set_same, get_or-set_other, slice_index}
use Rattle.std.specs.Int.Bits.{bit_and}
use Rattle.std.proofs.lemmas.Bool.{cases_lt}
use Rattle.ir_compile.specs.PortBits.{AreCommon}
use Rattle.ir_compile.proofs.PortBits.{common_none, common_back}
use Rattle.ir_compile.proofs.words.put_backs.Goals as goal

pub loop-i-init : goal.loop-i-init
loop-i-init c = record {
  low = c.requires.block;
  high = omega arith;
  every = refl;
  shared = common_none c.args.twice.now c.args.to;
  put = λ k l b. absurd (omega (arith, l, b));
}

pub loop-i-preserved : goal.loop-i-preserved
loop-i-preserved c =
    let twice : List ℕ = c.args.twice.now in
    let to : ℕ = c.args.to in
    let i : ℕ = c.loop-i.i in
    let at : ℕ = i - 1 in
    let v = c.loop-i.invariant in
    let more = c.loop-i-test.true in
    let high = v.high in
    let next : i ≡ at + 1 = omega (arith, more) in
    let backs : List ℕ = c.loop-i.backs in
    let word : ℕ = bit_and c.loop-i.common (slice_index twice at) in
    let shared : AreCommon twice at to word = common_back twice at to c.loop-i.common (omega (arith, more, high)) (subst (λ (x : ℕ). AreCommon twice x to c.loop-i.common) next v.shared) in
    let room : at < length backs = let e = v.every in let b = c.requires.backs in omega (arith, e, b, more, high) in
    record {
      low = omega (arith, more);
      high = omega (arith, high);
      every = length-set backs at word ∙ v.every;
      shared = shared;
      put = λ k l b.
          elim (cases_lt at k) [
            | inl behind ↦
                let ne : k ≢ at = λ e. absurd (omega (arith, e, behind)) in
                subst (λ (x : ℕ). AreCommon twice k to x) (sym (get_or-set_other backs at k word 0 ne)) (v.put k (omega (arith, behind, next)) b)
            | inr first ↦
                let e : at ≡ k = omega (arith, first, l) in
                subst (λ (x : ℕ). AreCommon twice x to (slice_index (set backs at word) x)) e (subst (λ (x : ℕ). AreCommon twice at to x) (sym (get_or-set_same backs at word 0 room)) shared)
          ];
    }
