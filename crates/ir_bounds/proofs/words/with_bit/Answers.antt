use Rattle.std.proofs.Common.{◌≡◌, ◌∙◌, true, false, sym, arith, w32}
use Rattle.std.proofs.lemmas.Nat.Bits.{bit_at_set_same, bit_at_set_other, bit_at_clear_same, bit_at_clear_other}
use Rattle.ir_bounds.proofs.words.with_bit.Goals as goal

pub returns-then-is_set-clause-own : goal.returns-then-is_set-clause-own
returns-then-is_set-clause-own c = ((λ yes. bit_at_set_same w32 c.args.word c.args.port c.requires), (λ bit. c.if-is_set.true))

pub returns-then-is_set-clause-others : goal.returns-then-is_set-clause-others
returns-then-is_set-clause-others c = λ q low ne. (let same = bit_at_set_other w32 c.args.word c.args.port c.requires q ne in ((λ bit. sym same ∙ bit), (λ bit. same ∙ bit)))

pub returns-else-is_set-clause-own : goal.returns-else-is_set-clause-own
returns-else-is_set-clause-own c = (
  (λ yes. absurd (let bad : false ≡ true = sym c.if-is_set.false ∙ yes in cc bad)),
  (λ bit. absurd (let none = bit_at_clear_same w32 c.args.word c.args.port c.requires in let bad : 0 ≡ 1 = sym none ∙ bit in omega (arith, bad))),
)

pub returns-else-is_set-clause-others : goal.returns-else-is_set-clause-others
returns-else-is_set-clause-others c = λ q low ne. (let same = bit_at_clear_other w32 c.args.word c.args.port c.requires q low ne in ((λ bit. sym same ∙ bit), (λ bit. same ∙ bit)))
