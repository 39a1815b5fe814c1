use Rattle.ir_bounds.specs.Near.{IsNearBatch}
use Rattle.ir_bounds.proofs.Numbers.{list_pushed}
use Rattle.ir_bounds.proofs.detours.near_lists.Goals as goal

pub loop-batch-preserved : goal.loop-batch-preserved
loop-batch-preserved c =
    let more = list_pushed (IsNearBatch c.args.topology.now c.args.owners.now.landmarks.items c.args.stretch) c.loop-batch.batch c.loop-batch.lists.items c.push.new.self.items c.in_ok-near_list.field-0
    c.loop-batch.invariant.every c.loop-batch.invariant.each c.in_ok-push.ensures.items c.in_ok-near_list.ensures in
    record { every = more.0; each = more.1 }
