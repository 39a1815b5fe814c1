use Rattle.ir_worker.proofs.Serves.{same_then}
use Rattle.ir_live_tests.proofs.turns.turned_twice.Goals as goal

pub returns : goal.returns
returns g c =
    same_then c.args.node c.learn.new.self c.turned-second.new.node c.learn.ensures.same
    (same_then c.learn.new.self c.turned-first.new.node c.turned-second.new.node c.turned-first.ensures c.turned-second.ensures)
