use Rattle.ir_core.proofs.Theorem.{by_history, refused_at}
use Rattle.ir_core.proofs.world.World.apply_by.Goals as goal

pub returns-clause-history : goal.returns-clause-history
returns-clause-history g c = λ log k.
    by_history log c.args.self.now c.answer.new.self c.invariant.ensures.world k c.args.event c.answer.result c.answer.ensures.answer

pub returns-clause-refused : goal.returns-clause-refused
returns-clause-refused g c = refused_at c.args.event c.args.self.now c.answer.new.self c.answer.result c.answer.ensures.answer
