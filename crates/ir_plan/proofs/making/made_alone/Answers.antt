use Rattle.std.proofs.Common.{◌≡◌, sym, arith}
use Rattle.ir_plan.proofs.Lists.{zip_more}
use Rattle.ir_plan.proofs.making.made_alone.Goals as goal

pub loop-k-preserved : goal.loop-k-preserved
loop-k-preserved g c = rw c.in_ok-push.ensures.items (zip_more _ c.loop-k.k c.loop-k.made.items c.in_ok-make.field-0 c.loop-k.invariant c.in_ok-make.ensures)

pub returns : goal.returns
returns g c =
    let all : c.loop-k.k ≡ c.args.count = omega (arith, c.loop-k-test.false, c.loop-k.auto.k-end) in
    rw (sym all) c.loop-k.invariant
