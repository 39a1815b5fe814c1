use Rattle.std.proofs.Common.{arith}
use Rattle.ir_model.specs.Landmark.{IsBlockParent}
use Rattle.ir_bounds.proofs.Numbers.{number_pushed}
use Rattle.ir_bounds.proofs.trees.block_parents.Goals as goal

pub loop-v-preserved : goal.loop-v-preserved
loop-v-preserved c =
    let more = number_pushed (IsBlockParent c.args.topology.now c.args.owners.now.landmarks.items) c.loop-v.v c.loop-v.parents.items c.push.new.self.items c.block_parent.result
    c.loop-v.invariant.every c.loop-v.invariant.each c.in_ok-push.ensures.items c.block_parent.ensures in
    record { every = more.0; each = more.1 }

pub returns-clause-every : goal.returns-clause-every
returns-clause-every c = omega (arith, c.loop-v.invariant.every, c.loop-v.auto.v-end, c.loop-v-test.false, c.nodes-nodes.ensures.count)

pub returns-clause-each : goal.returns-clause-each
returns-clause-each c = λ v lt. c.loop-v.invariant.each v (omega (arith, lt, c.loop-v-test.false, c.nodes-nodes.ensures.count))
