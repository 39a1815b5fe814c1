use Rattle.std.proofs.Common.{◌≡◌, ◌+◌, ◌-◌, arith, take, get_or}
use Rattle.ir_model.specs.Walk.{link_weight, walk_weight}
use Rattle.ir_trace.proofs.Weighing.{walk_weight-take}
use Rattle.ir_trace.proofs.judging.walk_weight.Goals as goal

pub loop-i-preserved : goal.loop-i-preserved
loop-i-preserved c =
    let net = c.args.topology.now in
    let hops = c.args.hops.now in
    let i = c.loop-i.i in
    let more : walk_weight net (take (i + 1) hops) ≡ walk_weight net (take i hops) + link_weight net (get_or hops (i - 1) 0) (get_or hops i 0) = walk_weight-take net hops i (omega arith) (omega arith) in
    record {
      weight = omega (arith, more);
      light = omega arith;
    }
