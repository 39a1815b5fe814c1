use Rattle.ir_core.proofs.Theorem.{all_sound}
use Rattle.ir_core.proofs.world.World.records_are_sound.Goals as goal

pub returns : goal.returns
returns c = all_sound c.args.self.now c.invariant.ensures.world
