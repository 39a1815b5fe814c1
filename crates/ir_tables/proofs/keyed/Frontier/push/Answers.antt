use Rattle.std.specs.BinaryHeap.{heap_items}
use Rattle.ir_tables.proofs.Waiting.{pushed_near, pushed_far}
use Rattle.ir_tables.proofs.keyed.Frontier.push.Goals as goal

pub returns-in_ok-push-clause-waits : goal.returns-in_ok-push-clause-waits
returns-in_ok-push-clause-waits c =
    pushed_near c.args.entry (heap_items c.args.self.now.near) (heap_items c.push.new.self) c.args.self.now.far.items c.in_ok-push.ensures.permutation

pub returns-in_ok-push-2-clause-waits : goal.returns-in_ok-push-2-clause-waits
returns-in_ok-push-2-clause-waits c =
    rw c.in_ok-push-2.ensures.items (pushed_far c.args.entry (heap_items c.args.self.now.near) c.args.self.now.far.items)
