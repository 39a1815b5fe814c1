use Rattle.std.proofs.Common.{take, string_bytes}
use Rattle.ir_model.specs.Graph.{names}
use Rattle.ir_model.specs.Topology.{ports_of}
use Rattle.ir_core.specs.Drain.{after_ports}
use Rattle.ir_core.proofs.Rounds.{PortsSo}
use Rattle.ir_steps.specs.Parts.{AddsText}
use Rattle.ir_steps.proofs.drain.try_ports.Given as goal

abbrev pub invariant-loop-port : goal.invariant-loop-port
invariant-loop-port l = record {
  so : PortsSo l.initial.world l.node l.port l.acted l.world;
  adds : AddsText (names l.net.graph.now) l.net.topology.now l.line (after_ports l.initial.world.opening l.node (take l.port (ports_of l.initial.world.opening.topology l.node))) l.initial.world (string_bytes l.initial.text) (string_bytes l.text);
}
