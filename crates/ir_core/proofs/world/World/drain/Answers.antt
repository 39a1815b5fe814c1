use Rattle.ir_core.proofs.Rounds.{drain_none, drain_more, drained, quiet_none_left}
use Rattle.ir_core.proofs.world.World.drain.Goals as goal

pub rounds-preserved : goal.rounds-preserved
rounds-preserved c =
    drain_more c.args.self.now c.rounds.self c.round-acted.new.self c.round-acted.result c.if-not-acted.false c.rounds.invariant c.round-acted.ensures.moves

pub returns-then-not-acted-clause-history : goal.returns-then-not-acted-clause-history
returns-then-not-acted-clause-history c =
    drained c.args.self.now c.rounds.self c.round-acted.new.self c.invariant.ensures.world c.round-acted.result c.if-not-acted.true c.rounds.invariant c.round-acted.ensures.moves

pub returns-then-not-acted-clause-none_left : goal.returns-then-not-acted-clause-none_left
returns-then-not-acted-clause-none_left c =
    quiet_none_left c.round-acted.new.self c.invariant-then-not-acted.ensures.world (c.round-acted.ensures.quiet c.if-not-acted.true)

pub rounds-init : goal.rounds-init
rounds-init c = drain_none c.args.self.now
