use Rattle.ir_control.proofs.working.carry_and_close.Goals as goal

pub returns-clause-closed : goal.returns-clause-closed
returns-clause-closed g c = c.closes.ensures
