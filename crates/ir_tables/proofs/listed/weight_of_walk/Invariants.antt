use Rattle.ir_model.specs.Topology.{node_count}
use Rattle.ir_tables.specs.Listed.{listed_port}
use Rattle.ir_tables.proofs.Ways.{IsWalked}
use Rattle.ir_tables.proofs.listed.weight_of_walk.Given as goal

abbrev pub invariant-loop-step : goal.invariant-loop-step
invariant-loop-step l = IsWalked l.topology (listed_port (node_count l.topology) l.ports) l.d l.u l.x l.sum l._step
