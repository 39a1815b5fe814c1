use Rattle.std.proofs.Common.{sym, arith}
use Rattle.ir_model.proofs.Going.{from_inside, from_past}
use Rattle.ir_compile.proofs.round.label_at.Goals as goal

pub returns-then-place-left-clause-from : goal.returns-then-place-left-clause-from
returns-then-place-left-clause-from c = sym (from_inside c.args.n c.args.start c.args.place c.requires.start (omega (arith, c.requires.place)) (omega (arith, c.if-place-left.true)))

pub returns-else-place-left-clause-from : goal.returns-else-place-left-clause-from
returns-else-place-left-clause-from c =
    let past = c.if-place-left.false in
    let s = c.requires.start in
    let e = from_past c.args.n c.args.start c.args.place s (omega (arith, c.requires.place)) (omega arith) in
    omega arith
