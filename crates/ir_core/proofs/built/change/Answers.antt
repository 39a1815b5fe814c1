use Rattle.ir_core.proofs.Controls.{change_taken}
use Rattle.ir_core.proofs.built.change.Goals as goal

pub returns-in-Ok : goal.returns-in-Ok
returns-in-Ok g c = change_taken c.args.world.now c.apply_by-reply.new.self c.args.event c.apply_by-reply.result c.requires c.apply_by-reply.ensures.same_opening c.apply_by-reply.ensures.history c.in-Ok.ensures.memory
