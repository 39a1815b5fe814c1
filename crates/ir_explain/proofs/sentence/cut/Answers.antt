use Rattle.std.proofs.Common.{ℕ, ap, take}
use Rattle.ir_explain.proofs.sentence.cut.Goals as goal

pub returns : goal.returns
returns c = ap (λ (n : ℕ). take n c.args.bytes.now) c.min.ensures
