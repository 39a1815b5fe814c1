use Rattle.std.proofs.Common.{arith, ◌-◌}
use Rattle.ir_worker.proofs.Ways.{took_port, empty_port, lines_in_kept}
use Rattle.ir_worker.proofs.entrances.Entrances.poll.Goals as goal

pub returns-clause-took : goal.returns-clause-took
returns-clause-took g c =
    took_port c.args.self.now.inbox c.args.self.now.ports.items c.args.self.now.next c.take-2.new.self c.index_mut-taker.result.now c.take-2.result (omega arith) (omega arith)
    c.index_mut-taker.ensures.value c.take-2.ensures.taken

pub returns-clause-ins : goal.returns-clause-ins
returns-clause-ins g c =
    lines_in_kept c.args.self.now.ports.items (c.args.self.now.next - 1) c.take-2.new.self c.index_mut-taker.result.now c.index_mut-taker.ensures.value c.take-2.ensures.channel

pub returns-clause-empty : goal.returns-clause-empty
returns-clause-empty g c =
    empty_port g.R.Moments.was_empty c.args.self.now.inbox c.args.self.now.ports.items c.args.self.now.next c.index_mut-taker.result.now c.take-2.result (omega arith) (omega arith) c.index_mut-taker.ensures.value c.take-2.ensures.moment
