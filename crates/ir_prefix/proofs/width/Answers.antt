use Rattle.std.proofs.Common.{◌<◌, ◌≤◌, ◌^◌, ℕ, subst, inl, inr, arith, below_more}
use Rattle.std.proofs.lemmas.Bool.{cases_lt}
use Rattle.ir_prefix.specs.Longest.{IsWidth}
use Rattle.ir_prefix.proofs.width.Goals as goal

-- so many bits are enough, and fewer were tried
is_width : (n bits tried : ℕ) → n ≤ 2 ^ bits → bits ≤ tried → ((k : ℕ) → k < tried → 2 ^ k < n) → IsWidth n bits
is_width n bits tried enough all fewer = record {
  enough = enough;
  least = λ k le. elim (cases_lt k bits) [ inl l ↦ absurd (omega (arith, le, fewer k (omega (arith, l, all)))) | inr g ↦ g ];
}

pub loop-bits-preserved : goal.loop-bits-preserved
loop-bits-preserved c =
    below_more (λ (k : ℕ). 2 ^ k < c.args.n) c.loop-bits.bits c.loop-bits.invariant (subst (λ (m : ℕ). m < c.args.n) c.pow.ensures c.if-n-pow.false)

pub returns-then-n-pow : goal.returns-then-n-pow
returns-then-n-pow c =
    is_width c.args.n c.loop-bits.bits c.loop-bits.bits (subst (λ (m : ℕ). c.args.n ≤ m) c.pow.ensures c.if-n-pow.true) (omega arith) c.loop-bits.invariant

pub returns : goal.returns
returns c = is_width c.args.n 16 c.loop-bits.bits (omega arith) c.loop-bits-test.false c.loop-bits.invariant
