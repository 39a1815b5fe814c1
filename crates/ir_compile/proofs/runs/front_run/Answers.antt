use Rattle.std.proofs.Common.{arith}
use Rattle.std.proofs.lemmas.Bool.{iff_false}
use Rattle.ir_model.proofs.Best.{row_front}
use Rattle.ir_compile.proofs.runs.front_run.Goals as goal

pub returns-then-not-is_served : goal.returns-then-not-is_served
returns-then-not-is_served c =
    row_front c.args.n c.args.own c.args.row.now c.loop-d.d (omega (arith, c.loop-d-test.true)) c.loop-d.invariant (λ _. iff_false c.is_served.ensures c.if-not-is_served.true)

pub returns : goal.returns
returns c =
    row_front c.args.n c.args.own c.args.row.now c.args.n (omega arith) (λ i l. c.loop-d.invariant i (omega (arith, c.loop-d-test.false))) (λ l. absurd (omega arith))
