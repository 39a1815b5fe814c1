use Rattle.ir_core.proofs.Rounds.{RoundSo}
use Rattle.ir_core.proofs.world.World.round.Given as goal

abbrev pub invariant-loop-node : goal.invariant-loop-node
invariant-loop-node l = RoundSo l.initial.self l.node l.acted l.self
