use Rattle.std.proofs.Common.{true, List, Bool, length, ap, ◌∙◌, arith}
use Rattle.std.proofs.lemmas.List.{take_more, length-take-le}
use Rattle.ir_core.proofs.marks.Marks.first.Goals as goal

pub loop-link-preserved : goal.loop-link-preserved
loop-link-preserved c =
    let more = take_more c.args.self.now c.loop-link.link true (omega (arith, c.invariant.ensures)) in
    cc (c.in_ok-push.ensures.items, c.loop-link.invariant, c.is_up.ensures, more)

pub returns-clause-count : goal.returns-clause-count
returns-clause-count c =
    ap (λ (xs : List Bool). length xs) c.loop-link.invariant ∙ length-take-le c.loop-link.link c.args.self.now (omega (arith, c.invariant.ensures)) ∙ omega arith
