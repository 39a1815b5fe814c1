use Rattle.ir_model.specs.Plan.{table_port}
use Rattle.ir_tables.proofs.Ways.{IsWritten}
use Rattle.ir_show.proofs.weights.write_walk.Given as goal

abbrev pub invariant-loop-step : goal.invariant-loop-step
invariant-loop-step l = IsWritten l.plan.topology (table_port l.plan) l.d l.u l.x l.left l._step l.initial.weights l.weights
