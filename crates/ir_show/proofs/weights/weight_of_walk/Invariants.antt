use Rattle.ir_model.specs.Plan.{table_port}
use Rattle.ir_tables.proofs.Ways.{IsWalked}
use Rattle.ir_show.proofs.weights.weight_of_walk.Given as goal

abbrev pub invariant-loop-step : goal.invariant-loop-step
invariant-loop-step l = IsWalked l.plan.topology (table_port l.plan) l.d l.u l.x l.sum l._step
