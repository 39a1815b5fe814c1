use Rattle.std.proofs.Common.{arith}
use Rattle.ir_show.proofs.weights.walk_weights_to.Goals as goal

pub returns : goal.returns
returns c =
    let filled = c.loop-u.invariant.filled in
    record {
      len = filled.len;
      ways = λ x here. filled.ways x here (c.loop-u.invariant.known x (omega (arith, here, c.loop-u-test.false, c.nodes-nodes.ensures.count)));
    }
