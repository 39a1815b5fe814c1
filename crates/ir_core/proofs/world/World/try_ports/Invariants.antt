use Rattle.ir_core.proofs.Rounds.{PortsSo}
use Rattle.ir_core.proofs.world.World.try_ports.Given as goal

abbrev pub invariant-loop-port : goal.invariant-loop-port
invariant-loop-port l = PortsSo l.initial.self l.node l.port l.acted l.self
