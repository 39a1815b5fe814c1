use Rattle.ir_model.specs.Topology.{node_count}
use Rattle.ir_control.specs.Parts.{AreFirstNodes, IsInjectorOf}
use Rattle.memory_tests.proofs.nets.take_all.Given as goal

abbrev pub invariant-loop-step : goal.invariant-loop-step
invariant-loop-step g l = AreFirstNodes l.net (node_count l.net.topology) l.parts.nodes.items × IsInjectorOf l.net l.parts.injector
