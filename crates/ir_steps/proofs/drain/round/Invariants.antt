use Rattle.std.proofs.Common.{string_bytes}
use Rattle.ir_model.specs.Graph.{names}
use Rattle.ir_core.specs.Drain.{after_visits}
use Rattle.ir_core.proofs.Rounds.{RoundSo}
use Rattle.ir_steps.specs.Parts.{AddsText}
use Rattle.ir_steps.proofs.drain.round.Given as goal

abbrev pub invariant-loop-node : goal.invariant-loop-node
invariant-loop-node l = record {
  so : RoundSo l.initial.world l.node l.acted l.world;
  adds : AddsText (names l.net.graph.now) l.net.topology.now l.line (after_visits l.initial.world.opening l.node) l.initial.world (string_bytes l.initial.text) (string_bytes l.text);
}
