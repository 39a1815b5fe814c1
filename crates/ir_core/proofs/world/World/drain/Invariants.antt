use Rattle.ir_core.specs.Quiet.{weight}
use Rattle.ir_core.proofs.Rounds.{DrainSo}
use Rattle.ir_core.proofs.world.World.drain.Given as goal

abbrev pub invariant-rounds : goal.invariant-rounds
invariant-rounds l = DrainSo l.initial.self l.self

abbrev pub decreases-rounds : goal.decreases-rounds
decreases-rounds l = weight l.self
