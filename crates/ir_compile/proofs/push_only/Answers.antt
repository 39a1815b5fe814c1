use Rattle.std.proofs.Common.{arith}
use Rattle.ir_compile.proofs.NoWords.{canonical_alone, canonical_only}
use Rattle.ir_compile.proofs.push_only.Goals as goal

pub returns-in_ok-push_start : goal.returns-in_ok-push_start
returns-in_ok-push_start c =
    rw c.in_ok-push_start.ensures (λ ports stand part.
    canonical_only _ _ ports _ part (omega (arith, c.args.words.now.ok, c.requires.none)) c.requires.own c.if-n-gt1.true _ _ c.after-first.ensures.after
    (stand.each _ c.after-first.ensures.label (c.after-first.ensures.differs c.if-n-gt1.true)))

pub returns-else-n-gt1 : goal.returns-else-n-gt1
returns-else-n-gt1 c = λ ports _ part.
    let few = c.if-n-gt1.false in
    let own = c.requires.own in
    canonical_alone _ _ ports _ part (omega (arith, c.args.words.now.ok, c.requires.none)) own (omega (arith, few, own))
